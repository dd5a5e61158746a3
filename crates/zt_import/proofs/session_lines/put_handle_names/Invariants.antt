-- The lines so far are skipped.
use Rattle.std.proofs.Common.{[], string_bytes}
use Rattle.zt_import.specs.ProofsOnly.ReadTexts.{Writes}
use Rattle.zt_import.proofs.session_lines.put_handle_names.Given as goal

abbrev pub invariant-loop-place : goal.invariant-loop-place
invariant-loop-place l = Writes (string_bytes l.fn.text) (string_bytes l.text) []
