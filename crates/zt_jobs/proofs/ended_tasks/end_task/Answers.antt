use Rattle.std.proofs.Common.{sym, ◌∙◌}
use Rattle.zt_store.specs.KoidSets.{only}
use Rattle.zt_jobs.proofs.PartLaws.{end-none}
use Rattle.zt_jobs.proofs.ended_tasks.end_task.Goals as goal

pub returns-in_default-clause-ok : goal.returns-in_default-clause-ok
returns-in_default-clause-ok c = end-none c.args.step.now.current (only c.args.koid) c.args.how c.args.koid (sym (rw c.store.ensures at c.object.ensures) ∙ c.in_default.is)
