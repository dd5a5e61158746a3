-- Only notes of the moment went.
use Rattle.std.proofs.Common.{length}
use Rattle.zt_history.proofs.NoteListLaws.{AreGone}
use Rattle.zt_history.proofs.object_notes.note_chains.NoteChains.cut.Given as goal

abbrev pub invariant-loop-moment : goal.invariant-loop-moment
invariant-loop-moment l = AreGone l.fn.self l.self l.fn.moment

abbrev pub decreases-loop-moment : goal.decreases-loop-moment
decreases-loop-moment l = length l.self
