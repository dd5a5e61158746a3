-- What was gone over has its marks, and of the other moments each has that of the earlier branches.
use Rattle.std.proofs.Common.{◌≡◌, ◌+◌, take, length}
use Rattle.zt_history.specs.Tree.{head_at}
use Rattle.zt_look.specs.ProofsOnly.BranchMarks.{AreMarksDownTo}
use Rattle.zt_look.proofs.branch_list.mark_line.Given as goal

abbrev pub invariant-line : goal.invariant-line
invariant-line l = record {
  down : AreMarksDownTo l.history.tree.made (take l.id l.history.tree.branches) (take (l.id + 1) l.history.tree.branches) (head_at l.history.tree.branches l.id) l.moment l.marks.items;
  size : length l.marks.items ≡ length l.fn.marks.items;
}

abbrev pub decreases-line : goal.decreases-line
decreases-line l = l.moment
