-- So far the set has what was leaked and the objects whose keys were gone over.
use Rattle.std.proofs.Common.{◌≡◌, ℕ, ◌||◌, take}
use Rattle.std.specs.BTreeSet.{contains}
use Rattle.std.specs.List.{list_any}
use Rattle.std.specs.Ordering.{nat_cmp}
use Rattle.zt_look.specs.ProofsOnly.EventsSoFar.{is_object}
use Rattle.zt_look.proofs.event_list.koids_of.Given as goal

abbrev pub invariant-loop-key : goal.invariant-loop-key
invariant-loop-key l = (x : ℕ) → contains nat_cmp l.koids x ≡ (contains nat_cmp l.leaked x || list_any (is_object x) (take l.key-index l.key-items))
