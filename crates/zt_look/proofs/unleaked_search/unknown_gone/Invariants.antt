-- So far those of the keys that were gone over are found.
use Rattle.std.proofs.Common.{◌≡◌, ℕ, not, ◌&&◌, take}
use Rattle.std.specs.Ordering.{nat_cmp}
use Rattle.std.specs.BTreeSet.{contains}
use Rattle.zt_look.specs.ProofsOnly.UnleakedSearch.{is_gone}
use Rattle.zt_look.proofs.unleaked_search.unknown_gone.Given as goal

abbrev pub invariant-loop-key : goal.invariant-loop-key
invariant-loop-key l = (x : ℕ) → contains nat_cmp l.found x ≡ (not (contains nat_cmp l.set x) && is_gone l.store.state (take l.key-index l.all) x)
