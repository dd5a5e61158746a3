use Rattle.std.proofs.Common.{sym, ◌∙◌}
use Rattle.zt_jobs.proofs.PartLaws.{entry-none}
use Rattle.zt_jobs.proofs.ended_tables.take_entry.Goals as goal

pub returns-in_default-clause-ok : goal.returns-in_default-clause-ok
returns-in_default-clause-ok c = entry-none c.args.step.now.current c.args.process c.args.value (sym (rw c.store.ensures at c.entry.ensures) ∙ c.in_default.is)
