use Rattle.std.proofs.Common.{◌≡◌, ◌&&◌, ℕ, length}
use Rattle.std.specs.Prelude.{if◌then◌else◌}
use Rattle.zt_index.specs.Chains.{bucket_at}
use Rattle.zt_index.specs.Criteria.{is_on, waits_where}
use Rattle.zt_index.proofs.IndexLaws.{is_passed, left_above}
use Rattle.zt_index.proofs.index.move_all.Given as goal

-- the waits that were passed on the way are moved, and no other
abbrev pub invariant-waits : goal.invariant-waits
invariant-waits l = record {
  moved : (n : ℕ) → bucket_at l.objects n ≡ (if waits_where l.cells.state (is_on l.process l.handle) n && is_passed l.low n then l.bucket else bucket_at l.fn.objects n);
  length : length l.objects ≡ length l.fn.objects;
}

abbrev pub decreases-waits : goal.decreases-waits
decreases-waits l = left_above (length l.handles) l.low
