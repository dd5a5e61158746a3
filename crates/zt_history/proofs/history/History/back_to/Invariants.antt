-- So far nothing moved but the position, and so many moments are on its path.
use Rattle.std.proofs.Common.{◌≡◌, length}
use Rattle.zt_history.specs.Tree.{path}
use Rattle.zt_history.specs.Timeline.{moved_to}
use Rattle.zt_history.specs.TreeInvariant.{Falls}
use Rattle.zt_history.proofs.history.History.back_to.Given as goal

abbrev pub invariant-loop-depth : goal.invariant-loop-depth
invariant-loop-depth l = record {
  moved : l.self ≡ moved_to l.fn.self l.self.position;
  depth : l.depth ≡ length (path l.fn.self.tree.made l.self.position);
  falls : Falls l.fn.self.tree.made;
}

abbrev pub decreases-loop-depth : goal.decreases-loop-depth
decreases-loop-depth l = l.depth
