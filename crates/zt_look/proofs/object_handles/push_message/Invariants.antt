-- So far the list has the handles that come at the places that were gone over.
use Rattle.std.proofs.Common.{◌≡◌, ◌++◌}
use Rattle.std.specs.BTreeMap.{get}
use Rattle.std.specs.List.{filter_map}
use Rattle.zt_lineage.specs.Places.{place_cmp}
use Rattle.zt_look.specs.ObjectHandles.{coming_at, message_places}
use Rattle.zt_look.proofs.object_handles.push_message.Given as goal

abbrev pub invariant-loop-index : goal.invariant-loop-index
invariant-loop-index l =
    l.list.items ≡ l.fn.list.items ++ filter_map (coming_at (get place_cmp l.departures) l.history.tree.made l.koid l.moment) (message_places l.endpoint l.number l.index)
