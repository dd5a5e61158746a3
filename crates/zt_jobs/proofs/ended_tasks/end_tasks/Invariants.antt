use Rattle.std.proofs.Common.{◌≡◌, take}
use Rattle.zt_rows.specs.State.{change}
use Rattle.zt_rows.specs.Tests.{among}
use Rattle.zt_store.specs.ProofsOnly.StepView.{IsAhead}
use Rattle.zt_jobs.specs.ProofsOnly.EndedTasks.{with_end}
use Rattle.zt_jobs.proofs.ended_tasks.end_tasks.Given as goal

abbrev pub invariant-loop-koid : goal.invariant-loop-koid
invariant-loop-koid l = record {
  ahead : IsAhead l.fn.step l.step;
  ended : l.step.current ≡ change (with_end (among (take l.koid-index l.members)) l.how) l.fn.step.current;
}
