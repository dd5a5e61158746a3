use Rattle.std.proofs.Common.{◌≡◌, ◌<◌}
use Rattle.std.specs.Prelude.{IfSome}
use Rattle.zt_index.specs.ProofsOnly.Chains.{IsItemOf, before_of, buckets, is_in}
use Rattle.zt_index.proofs.ChainLaws.{room_below}
use Rattle.zt_index.proofs.chains.searched.Given as goal

abbrev pub invariant-items : goal.invariant-items
invariant-items l = record {
  linked : l.before ≡ before_of l.links l.ends l.bucket l.next;
  within : IsItemOf (is_in (buckets l.links) l.bucket) l.next;
  above : IfSome l.next (λ n. l.item < n);
}

abbrev pub decreases-items : goal.decreases-items
decreases-items l = room_below l.before
