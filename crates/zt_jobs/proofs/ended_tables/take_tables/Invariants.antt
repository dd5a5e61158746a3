use Rattle.std.proofs.Common.{◌≡◌, take}
use Rattle.zt_rows.specs.State.{change}
use Rattle.zt_rows.specs.Tests.{among}
use Rattle.zt_store.specs.ProofsOnly.StepView.{IsAhead}
use Rattle.zt_jobs.specs.EndedTasks.{handles_of}
use Rattle.zt_jobs.specs.ProofsOnly.EndedTasks.{without_tables}
use Rattle.zt_jobs.proofs.ended_tables.take_tables.Given as goal

abbrev pub invariant-loop-koid : goal.invariant-loop-koid
invariant-loop-koid l = record {
  ahead : IsAhead l.fn.step l.step;
  handles : l.taken.items ≡ handles_of l.fn.step.current (among (take l.koid-index l.members));
  rest : l.step.current ≡ change (without_tables (among (take l.koid-index l.members))) l.fn.step.current;
}
