use Rattle.std.proofs.Common.{◌≡◌, length}
use Rattle.zt_text.specs.Lines.{lines_of}
use Rattle.zt_text.specs.Notes.{noted_in}
use Rattle.zt_text.proofs.notes_reader.NotesReader.take_lines.Given as goal

-- the lines left note, behind what is noted so far, what all note behind what was before them
abbrev pub invariant-lines : goal.invariant-lines
invariant-lines l = noted_in l.fn.self (lines_of l.fn.lines) ≡ noted_in l.self (lines_of l.left)

abbrev pub decreases-lines : goal.decreases-lines
decreases-lines l = length l.left
