-- Of the calls gone over, the set has the keys at which they changed rows: all other rows are the same at the moments reached.
use Rattle.std.proofs.Common.{◌≤◌, ◌+◌, length}
use Rattle.zt_history.specs.Tree.{state_at}
use Rattle.zt_look.specs.ProofsOnly.TwoStates.{IsSameBeside}
use Rattle.zt_look.proofs.changes_between.keys_between.Given as goal

abbrev pub invariant-moments : goal.invariant-moments
invariant-moments l = record {
  left : l.left ≤ length l.history.tree.made;
  right : l.right ≤ length l.history.tree.made;
  from : IsSameBeside (state_at l.history.tree.made l.fn.from) (state_at l.history.tree.made l.left) l.keys;
  to : IsSameBeside (state_at l.history.tree.made l.fn.to) (state_at l.history.tree.made l.right) l.keys;
}

abbrev pub decreases-moments : goal.decreases-moments
decreases-moments l = l.left + l.right
