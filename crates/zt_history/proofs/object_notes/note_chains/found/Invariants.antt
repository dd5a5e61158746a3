-- The notes of the object behind are none that is looked for.
use Rattle.zt_history.proofs.NoteListLaws.{IsSearched}
use Rattle.zt_history.proofs.object_notes.note_chains.found.Given as goal

abbrev pub invariant-loop-next : goal.invariant-loop-next
invariant-loop-next l = IsSearched l.list.items l.moments.made l.what l.fn.koid l.fn.at l.next

abbrev pub decreases-loop-next : goal.decreases-loop-next
decreases-loop-next l = l.next
