-- So far nothing moved but the position, which is beyond the moment still, or is it.
use Rattle.std.proofs.Common.{◌≡◌}
use Rattle.zt_history.specs.ProofsOnly.Forks.{IsAbove}
use Rattle.zt_history.specs.Timeline.{moved_to}
use Rattle.zt_history.proofs.history.History.retreat.Given as goal

abbrev pub invariant-loop-moment : goal.invariant-loop-moment
invariant-loop-moment l = record {
  moved : l.self ≡ moved_to l.fn.self l.self.position;
  above : IsAbove l.self.tree.made l.moment l.self.position;
}

abbrev pub decreases-loop-moment : goal.decreases-loop-moment
decreases-loop-moment l = l.self.position
