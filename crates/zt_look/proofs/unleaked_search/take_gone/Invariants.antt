-- So far the objects of the keys that were gone over are taken out, where they are not there.
use Rattle.std.proofs.Common.{◌≡◌, ℕ, not, ◌&&◌, take}
use Rattle.std.specs.Ordering.{nat_cmp}
use Rattle.std.specs.BTreeSet.{contains}
use Rattle.zt_look.specs.ProofsOnly.UnleakedSearch.{is_gone}
use Rattle.zt_look.proofs.unleaked_search.take_gone.Given as goal

abbrev pub invariant-loop-key : goal.invariant-loop-key
invariant-loop-key l = (x : ℕ) → contains nat_cmp l.set x ≡ (contains nat_cmp l.fn.set x && not (is_gone l.store.state (take l.key-index l.all) x))
