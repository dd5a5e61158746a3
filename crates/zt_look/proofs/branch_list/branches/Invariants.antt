-- So far the list has the branches that were gone over, and each moment the mark of the first of these to which it leads.
use Rattle.std.proofs.Common.{◌≡◌, ◌+◌, map, take, length}
use Rattle.std.specs.List.{range_with_len}
use Rattle.zt_look.specs.BranchList.{branch_look}
use Rattle.zt_look.specs.ProofsOnly.BranchMarks.{AreMarks}
use Rattle.zt_look.proofs.branch_list.branches.Given as goal

abbrev pub invariant-loop-number : goal.invariant-loop-number
invariant-loop-number l = record {
  listed : l.list.items ≡ map (branch_look l.history.tree) (range_with_len 0 l.number);
  marks : AreMarks l.history.tree.made (take l.number l.history.tree.branches) l.marks.items;
  size : length l.marks.items ≡ length l.history.tree.made + 1;
}
