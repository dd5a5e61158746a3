-- So far it is noted how the handles leave under the keys that were gone over.
use Rattle.std.proofs.Common.{◌≡◌, take}
use Rattle.std.specs.BTreeMap.{get}
use Rattle.std.specs.List.{flat_map}
use Rattle.zt_history.specs.Tree.{parent_at, state_at}
use Rattle.zt_lineage.specs.declared.places.Place.{Place}
use Rattle.zt_lineage.specs.Places.{place_cmp}
use Rattle.zt_look.specs.ObjectHandles.{places_under}
use Rattle.zt_look.specs.ProofsOnly.Departures.{departed_in}
use Rattle.zt_look.proofs.object_handles.note_departures.Given as goal

abbrev pub invariant-loop-key : goal.invariant-loop-key
invariant-loop-key l = (at : Place) → get place_cmp l.departures at
    ≡ departed_in l.history.tree.made l.koid l.moment (flat_map (places_under (state_at l.history.tree.made (parent_at l.history.tree.made l.moment))) (take l.key-index l.keys)) at (get place_cmp l.fn.departures at)
