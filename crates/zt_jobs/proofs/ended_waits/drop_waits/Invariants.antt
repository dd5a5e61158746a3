use Rattle.std.proofs.Common.{◌≡◌, take}
use Rattle.zt_rows.specs.State.{change}
use Rattle.zt_rows.specs.Tests.{among}
use Rattle.zt_store.specs.ProofsOnly.StepView.{IsAhead}
use Rattle.zt_jobs.specs.ProofsOnly.EndedTasks.{without_waits}
use Rattle.zt_jobs.proofs.ended_waits.drop_waits.Given as goal

abbrev pub invariant-loop-koid : goal.invariant-loop-koid
invariant-loop-koid l = record {
  ahead : IsAhead l.fn.step l.step;
  rest : l.step.current ≡ change (without_waits (among (take l.koid-index l.members))) l.fn.step.current;
}
