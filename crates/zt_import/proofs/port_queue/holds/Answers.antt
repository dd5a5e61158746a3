-- The one that is sought is found, or none is left.
use Rattle.std.proofs.Common.{sym, ◌∙◌, subst}
use Rattle.zt_import.specs.ProofsOnly.PortQueue.{AreOthersBefore}
use Rattle.zt_import.proofs.PortQueueLaws.{one-held, none-held}
use Rattle.zt_import.proofs.port_queue.holds.Goals as goal

pub returns-then-is_queued_under : goal.returns-then-is_queued_under
returns-then-is_queued_under c =
    one-held c.args.store.now.state c.args.port c.args.recorded c.in-Some.number (sym c.is_queued_under.ensures ∙ c.if-is_queued_under.true)

pub returns : goal.returns
returns c =
    none-held c.args.store.now.state c.args.port c.args.recorded
    (subst (AreOthersBefore c.args.store.now.state c.args.port c.args.recorded) c.in_default.is c.packets.invariant)
