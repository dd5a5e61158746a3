-- So far the objects of the keys that were gone over are in the set.
use Rattle.std.proofs.Common.{◌≡◌, ℕ, take}
use Rattle.std.specs.List.{list_any}
use Rattle.std.specs.Ordering.{nat_cmp}
use Rattle.std.specs.BTreeSet.{contains}
use Rattle.zt_look.specs.ProofsOnly.UnleakedSearch.{is_object}
use Rattle.zt_look.proofs.unleaked_set.objects_of.Given as goal

abbrev pub invariant-loop-key : goal.invariant-loop-key
invariant-loop-key l = (x : ℕ) → contains nat_cmp l.set x ≡ list_any (is_object x) (take l.key-index l.all)
