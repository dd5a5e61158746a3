use Rattle.std.proofs.Common.{sym}
use Rattle.zt_rows.proofs.ReadLaws.{packet-row}
use Rattle.zt_ports.proofs.FrontLaws.{first-none, first-some, front-there}
use Rattle.zt_ports.proofs.port_front.front.Goals as goal

pub returns-in_err-number : goal.returns-in_err-number
returns-in_err-number c = rw c.from_residual.ensures (sym (first-none c.args.step.now.current c.args.port (rw c.store-store.ensures at c.in_err-number.ensures.first)))

pub returns-in_err-packet : goal.returns-in_err-packet
returns-in_err-packet c =
    absurd (front-there c.args.step.now.current c.args.port c.in_ok-number.number (rw c.store-store.ensures at c.in_ok-number.ensures.first) (rw c.store-store.ensures at c.in_ok-number.ensures.suited) (sym (rw c.store-store.ensures at c.in_err-packet.ensures)))

pub returns : goal.returns
returns c =
    sym (first-some c.args.step.now.current c.args.port c.in_ok-number.number c.in_ok-packet.packet (rw c.store-store.ensures at c.in_ok-number.ensures.first)
    (packet-row c.args.step.now.current c.args.port c.in_ok-number.number c.in_ok-packet.packet (sym (rw c.store-store.ensures at c.in_ok-packet.ensures))))
