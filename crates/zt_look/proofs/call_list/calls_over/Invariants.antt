-- So far the list has what is asked for of the moments that were gone over, and the tree is as it was.
use Rattle.std.proofs.Common.{◌≡◌, take}
use Rattle.zt_look.specs.CallList.{asked_among}
use Rattle.zt_look.proofs.call_list.calls_over.Given as goal

abbrev pub invariant-loop-place : goal.invariant-loop-place
invariant-loop-place l = record {
  listed : l.list.items ≡ asked_among l.fn.history.tree.made l.asked (take l.place l.way);
  tree : l.history.tree ≡ l.fn.history.tree;
}
