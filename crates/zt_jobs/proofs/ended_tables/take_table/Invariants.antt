use Rattle.std.proofs.Common.{◌≡◌, ◌++◌, ◌-◌, ◌^◌}
use Rattle.zt_store.specs.ProofsOnly.StepView.{IsAhead}
use Rattle.zt_store.specs.KoidSets.{only}
use Rattle.zt_jobs.specs.EndedTasks.{handles_of}
use Rattle.zt_jobs.proofs.PartLaws.{EntriesSeen}
use Rattle.zt_jobs.proofs.ended_tables.take_table.Given as goal

abbrev pub invariant-entries : goal.invariant-entries
invariant-entries l = record {
  ahead : IsAhead l.fn.step l.step;
  seen : EntriesSeen l.fn.step.current l.fn.process l.step.current l.value;
  handles : l.taken.items ++ handles_of l.step.current (only l.fn.process) ≡ l.fn.taken.items ++ handles_of l.fn.step.current (only l.fn.process);
}

abbrev pub decreases-entries : goal.decreases-entries
decreases-entries l = 2 ^ 32 - l.value
