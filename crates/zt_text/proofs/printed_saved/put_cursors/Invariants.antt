use Rattle.std.proofs.Common.{◌≡◌, ◌++◌, take}
use Rattle.zt_text.specs.SavedTexts.{cursor_lines}
use Rattle.zt_text.proofs.printed_saved.put_cursors.Given as goal

abbrev pub invariant-loop-place : goal.invariant-loop-place
invariant-loop-place l = l.text.items ≡ l.fn.text.items ++ cursor_lines 1 (take l.place l.cursors)
