use Rattle.std.proofs.Common.{◌+◌, length}
use Rattle.zt_store.specs.ProofsOnly.StepView.{IsAhead}
use Rattle.zt_cascade.specs.JoinedLinks.{IsJoined}
use Rattle.zt_cascade.specs.ProofsOnly.RemovedObject.{Covers, weight}
use Rattle.zt_cascade.specs.OneByOne.{IsOnTheWay}
use Rattle.zt_cascade.proofs.worklist.follow.Given as goal

abbrev pub invariant-loop-koid : goal.invariant-loop-koid
invariant-loop-koid l = record {
  ahead : IsAhead l.fn.step l.step;
  joined : IsJoined l.step.current;
  covered : Covers l.list.items l.step.current;
  way : IsOnTheWay l.fn.step.current l.step.current;
}

abbrev pub decreases-loop-koid : goal.decreases-loop-koid
decreases-loop-koid l = weight l.step.current + length l.list.items
