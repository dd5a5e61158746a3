-- So far the steps at the earlier moments are listed, and the history stands behind them.
use Rattle.std.proofs.Common.{◌≡◌, ◌++◌, drop, take}
use Rattle.zt_history.specs.Tree.{end_of}
use Rattle.zt_lineage.specs.Lives.{onward}
use Rattle.zt_lineage.proofs.handle_life.push_onward.Given as goal

abbrev pub invariant-loop-n : goal.invariant-loop-n
invariant-loop-n l = record {
  steps : l.steps.items ++ (onward l.fn.history.tree.made (drop l.n l.way) l.place).steps ≡ l.fn.steps.items ++ (onward l.fn.history.tree.made (drop l.fn.n l.way) l.fn.place).steps;
  ended : (onward l.fn.history.tree.made (drop l.n l.way) l.place).ended ≡ (onward l.fn.history.tree.made (drop l.fn.n l.way) l.fn.place).ended;
  tree : l.history.tree ≡ l.fn.history.tree;
  stands : l.history.position ≡ end_of (take l.n l.way);
}
