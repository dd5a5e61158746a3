-- So far it is noted how the handles leave that were gone over.
use Rattle.std.proofs.Common.{◌≡◌}
use Rattle.std.specs.BTreeMap.{get}
use Rattle.zt_lineage.specs.declared.places.Place.{Place}
use Rattle.zt_lineage.specs.Places.{place_cmp}
use Rattle.zt_look.specs.ObjectHandles.{message_places}
use Rattle.zt_look.specs.ProofsOnly.Departures.{departed_in}
use Rattle.zt_look.proofs.object_handles.note_message.Given as goal

abbrev pub invariant-loop-index : goal.invariant-loop-index
invariant-loop-index l = (at : Place) → get place_cmp l.departures at
    ≡ departed_in l.history.tree.made l.koid l.moment (message_places l.endpoint l.number l.index) at (get place_cmp l.fn.departures at)
