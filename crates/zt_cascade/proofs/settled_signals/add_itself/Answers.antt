use Rattle.std.proofs.Common.{inl}
use Rattle.zt_cascade.proofs.NearLaws.{none-derived}
use Rattle.zt_cascade.proofs.settled_signals.add_itself.Goals as goal

pub returns-in-Event-clause-listed : goal.returns-in-Event-clause-listed
returns-in-Event-clause-listed c = inl (λ S. none-derived S c.args.koid c.args.now.now c.in-Event.is c.limits.ensures)
