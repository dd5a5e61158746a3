-- Each place that is made says that there is no note.
use Rattle.std.proofs.Common.{◌-◌, ◌+◌, length}
use Rattle.zt_history.specs.ProofsOnly.ObjectNotes.{IsSameEnd}
use Rattle.zt_history.proofs.object_notes.note_chains.cover.Given as goal

abbrev pub invariant-loop-last : goal.invariant-loop-last
invariant-loop-last l = IsSameEnd l.fn.last.items l.last.items

abbrev pub decreases-loop-last : goal.decreases-loop-last
decreases-loop-last l = l.fn.koid + 1 - length l.last.items
