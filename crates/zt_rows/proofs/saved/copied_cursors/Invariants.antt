-- What is copied is what stands before the next one.
use Rattle.std.proofs.Common.{◌≡◌, take}
use Rattle.zt_rows.proofs.saved.copied_cursors.Given as goal

abbrev pub invariant-loop-cursor : goal.invariant-loop-cursor
invariant-loop-cursor l = l.copied.items ≡ take l.cursor-index l.cursor-items
