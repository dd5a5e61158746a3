-- Each byte that is taken appends at most four.
use Rattle.std.proofs.Common.{◌+◌, ◌*◌, ◌≤◌}
use Rattle.std.specs.Prelude.{string_len}
use Rattle.zt_logs.proofs.shown_texts.put_shown.Given as goal

abbrev pub invariant-loop-letter : goal.invariant-loop-letter
invariant-loop-letter l = string_len l.text + 4 * l.left ≤ string_len l.fn.text + 4 * l.most
