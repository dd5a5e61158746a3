-- So far the steps of the later moments are listed.
use Rattle.std.proofs.Common.{◌≡◌, ◌++◌, ◌≤◌}
use Rattle.zt_lineage.specs.Lives.{comings}
use Rattle.zt_lineage.proofs.handle_life.comings.Given as goal

abbrev pub invariant-loop-n : goal.invariant-loop-n
invariant-loop-n l = record {
  steps : l.list.items ++ comings l.fn.history.tree.made l.way l.n l.place l.held ≡ comings l.fn.history.tree.made l.way l.fn.n l.fn.place l.fn.held;
  within : l.n ≤ l.fn.n;
  tree : l.history.tree ≡ l.fn.history.tree;
}
