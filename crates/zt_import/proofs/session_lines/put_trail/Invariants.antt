-- The lines so far read as the calls of the steps so far.
use Rattle.std.proofs.Common.{string_bytes, take}
use Rattle.zt_import.specs.ProofsOnly.ReadTexts.{Writes, calls_by}
use Rattle.zt_import.proofs.session_lines.put_trail.Given as goal

abbrev pub invariant-loop-place : goal.invariant-loop-place
invariant-loop-place l = Writes (string_bytes l.fn.text) (string_bytes l.text) (calls_by l.history.tree.made (take l.place l.trail))
