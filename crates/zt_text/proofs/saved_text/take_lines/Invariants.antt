use Rattle.std.proofs.Common.{◌≡◌, ◌≤◌, ◌+◌, length}
use Rattle.zt_text.specs.Lines.{lines_of}
use Rattle.zt_text.specs.SavedTexts.{with_lines}
use Rattle.zt_text.proofs.saved_text.take_lines.Given as goal

-- the lines left make of the tree so far what all make of the tree before them
abbrev pub invariant-loop-left : goal.invariant-loop-left
invariant-loop-left l = record {
  so_far : with_lines l.fn.tree 2 (lines_of l.text) ≡ with_lines l.tree l.number (lines_of l.left);
  room : l.number + length l.left ≤ length l.text + 2;
}

abbrev pub decreases-loop-left : goal.decreases-loop-left
decreases-loop-left l = length l.left
