use Rattle.zt_store.specs.ProofsOnly.StepView.{IsAhead}
use Rattle.zt_jobs.proofs.BelowLaws.{left_from}
use Rattle.zt_jobs.proofs.PartLaws.{WaitsLeft}
use Rattle.zt_jobs.proofs.ended_waits.drop_waits_by.Given as goal

abbrev pub invariant-waits : goal.invariant-waits
invariant-waits l = record {
  ahead : IsAhead l.fn.step l.step;
  left : WaitsLeft l.fn.step.current l.process l.step.current l.next;
}

abbrev pub decreases-waits : goal.decreases-waits
decreases-waits l = left_from l.next
