use Rattle.zt_store.specs.ProofsOnly.StepView.{IsAhead}
use Rattle.zt_cascade.specs.ProofsOnly.RemovedObject.{IsPartly, weight}
use Rattle.zt_cascade.proofs.removed_rows.take_waits.Given as goal

abbrev pub invariant-waits : goal.invariant-waits
invariant-waits l = record {
  ahead : IsAhead l.fn.step l.step;
  partly : IsPartly l.koid l.fn.step.current l.step.current;
}

abbrev pub decreases-waits : goal.decreases-waits
decreases-waits l = weight l.step.current
