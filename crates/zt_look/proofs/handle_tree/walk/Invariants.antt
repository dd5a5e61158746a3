-- What was visited, and then what is left to visit, is the tree.
use Rattle.std.proofs.Common.{◌≡◌, ◌++◌}
use Rattle.zt_look.specs.HandleTree.{tree_of}
use Rattle.zt_look.specs.ProofsOnly.TreeLinks.{steps_left, visits}
use Rattle.zt_look.proofs.handle_tree.walk.Given as goal

abbrev pub invariant-loop-next : goal.invariant-loop-next
invariant-loop-next l = l.steps.items ++ steps_left l.list l.left.items ≡ tree_of l.list

abbrev pub decreases-loop-next : goal.decreases-loop-next
decreases-loop-next l = visits l.list l.left.items
