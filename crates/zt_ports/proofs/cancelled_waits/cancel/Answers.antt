use Rattle.zt_ports.proofs.CancelLaws.{cancelled, any-cancelled}
use Rattle.zt_ports.proofs.cancelled_waits.cancel.Goals as goal

pub returns-clause-ok : goal.returns-clause-ok
returns-clause-ok c =
    cancelled c.args.port c.args.process c.args.handle c.args.key c.args.step.now c.cancel_packets.new.step c.cancel_waits.new.step
    c.in_ok-packets.ensures.ok c.in_ok-waits.ensures.ok

pub returns-clause-any : goal.returns-clause-any
returns-clause-any c =
    any-cancelled c.args.port c.args.process c.args.handle c.args.key c.args.step.now c.cancel_packets.new.step c.in_ok-packets.packets c.in_ok-waits.waits
    c.in_ok-packets.ensures.ok c.in_ok-packets.ensures.any c.in_ok-waits.ensures.any
