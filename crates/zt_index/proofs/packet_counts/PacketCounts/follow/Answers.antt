use Rattle.std.proofs.Common.{arith}
use Rattle.zt_index.proofs.Counts.{bit-small}
use Rattle.zt_index.proofs.PacketCountLaws.{seen-enough, seen-moved, seen-number, seen-within}
use Rattle.zt_index.proofs.packet_counts.PacketCounts.follow.Goals as goal

pub index_mut-pending-requires : goal.index_mut-pending-requires
index_mut-pending-requires c =
    let within = seen-within c.self.inside.numbers.items c.args.self.now c.args.key c.in-Packet.port c.port.inside.0 c.in-Packet.field-1 c.self.view_is c.port.view_is c.in-Packet.is c.requires.within in
    omega (arith, within, c.self.inside.numbers.ok.0)

pub overflow_add-pending : goal.overflow_add-pending
overflow_add-pending c =
    let read = seen-number c.self.inside.numbers.items c.args.self.now c.args.key c.in-Packet.port c.port.inside.0 c.in-Packet.field-1 c.self.view_is c.port.view_is c.in-Packet.is c.requires.within c.index_mut-pending.result.now c.index_mut-pending.ensures.value in
    omega (arith, read, c.requires.few c.in-Packet.port, bit-small c.args.came c.from.result c.from.ensures)

pub overflow_sub-pending : goal.overflow_sub-pending
overflow_sub-pending c =
    seen-enough c.self.inside.numbers.items c.args.self.now c.args.key c.in-Packet.port c.port.inside.0 c.in-Packet.field-1 c.self.view_is c.port.view_is c.in-Packet.is c.requires.within c.index_mut-pending.result.now c.from.result c.from-in-Packet.result c.args.came c.args.went c.index_mut-pending.ensures.value c.from.ensures c.from-in-Packet.ensures c.requires.there

pub returns-in-Packet-clause-moved : goal.returns-in-Packet-clause-moved
returns-in-Packet-clause-moved c =
    seen-moved c.self.inside.numbers.items c.args.self.now c.args.key c.in-Packet.port c.port.inside.0 c.in-Packet.field-1 c.self.view_is c.port.view_is c.in-Packet.is c.requires.within c.index_mut-pending.result.now c.from.result c.from-in-Packet.result c.args.came c.args.went c.index_mut-pending.ensures.value c.from.ensures c.from-in-Packet.ensures c.requires.there
