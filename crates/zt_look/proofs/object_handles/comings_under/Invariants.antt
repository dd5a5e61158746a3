-- So far the list has the handles that come under the keys that were gone over.
use Rattle.std.proofs.Common.{◌≡◌, take}
use Rattle.std.specs.BTreeMap.{get}
use Rattle.std.specs.List.{filter_map, flat_map}
use Rattle.zt_history.specs.Tree.{state_at}
use Rattle.zt_lineage.specs.Places.{place_cmp}
use Rattle.zt_look.specs.ObjectHandles.{coming_at, places_under}
use Rattle.zt_look.proofs.object_handles.comings_under.Given as goal

abbrev pub invariant-loop-key : goal.invariant-loop-key
invariant-loop-key l =
    l.list.items
    ≡ flat_map (λ k. filter_map (coming_at (get place_cmp l.departures) l.history.tree.made l.koid l.moment) (places_under (state_at l.history.tree.made l.moment) k)) (take l.key-index l.keys)
