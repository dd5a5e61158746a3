use Rattle.zt_store.specs.ProofsOnly.StepView.{IsAhead}
use Rattle.zt_cascade.specs.ProofsOnly.RemovedObject.{AreHandlesListed, IsPartly, weight}
use Rattle.zt_cascade.proofs.removed_rows.take_messages.Given as goal

abbrev pub invariant-loop-number : goal.invariant-loop-number
invariant-loop-number l = record {
  ahead : IsAhead l.fn.step l.step;
  partly : IsPartly l.endpoint l.fn.step.current l.step.current;
  noted : AreHandlesListed l.endpoint l.fn.step.current l.fn.list.items l.step.current l.list.items;
}

abbrev pub decreases-loop-number : goal.decreases-loop-number
decreases-loop-number l = weight l.step.current
