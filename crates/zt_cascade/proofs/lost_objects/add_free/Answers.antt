use Rattle.zt_cascade.proofs.ReleasingLaws.{held-listed}
use Rattle.std.proofs.Common.{sym, ◌∙◌}
use Rattle.zt_cascade.proofs.lost_objects.add_free.Goals as goal

pub returns-else-is_free-clause-listed : goal.returns-else-is_free-clause-listed
returns-else-is_free-clause-listed c = held-listed c.args.step.now.current c.args.koid c.args.list.now.items (sym c.is_free.ensures ∙ c.if-is_free.false)
