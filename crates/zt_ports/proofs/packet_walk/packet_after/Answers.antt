use Rattle.zt_ports.proofs.PacketLaws.{next-under}
use Rattle.zt_ports.proofs.packet_walk.packet_after.Goals as goal

pub returns : goal.returns
returns c = next-under c.args.step.now.current c.args.port c.args.low c.packet_of.result (rw c.store.ensures at c.packet_of.ensures)
