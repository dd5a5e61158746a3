use Rattle.std.proofs.Common.{sym, ◌∙◌}
use Rattle.zt_jobs.proofs.PartLaws.{life-none}
use Rattle.zt_jobs.proofs.ended_tasks.set_life.Goals as goal

pub returns-in_default-clause-ok : goal.returns-in_default-clause-ok
returns-in_default-clause-ok c = life-none c.args.step.now.current c.args.koid c.args.how (sym (rw c.store.ensures at c.object.ensures) ∙ c.in_default.is)
