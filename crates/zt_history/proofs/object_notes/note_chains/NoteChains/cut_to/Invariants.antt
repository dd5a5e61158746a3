-- The first so many are those of before.
use Rattle.std.proofs.Common.{◌≡◌, length, take}
use Rattle.zt_history.proofs.object_notes.note_chains.NoteChains.cut_to.Given as goal

abbrev pub invariant-loop-self : goal.invariant-loop-self
invariant-loop-self l = take l.fn.count l.self ≡ take l.fn.count l.fn.self

abbrev pub decreases-loop-self : goal.decreases-loop-self
decreases-loop-self l = length l.self
