use Rattle.std.proofs.Common.{refl, sym, ◌∙◌}
use Rattle.zt_rows.specs.declared.keys.RowKey.TheVariants as key
use Rattle.zt_signals.proofs.ColumnLaws.{row-stays}
use Rattle.zt_ports.specs.ProofsOnly.CancelledWaits.{is_cancelled_packet}
use Rattle.zt_ports.proofs.cancelled_waits.cancel_packet.Goals as goal

pub returns-else-is_cancelled-clause-ok : goal.returns-else-is_cancelled-clause-ok
returns-else-is_cancelled-clause-ok c =
    let test = is_cancelled_packet c.args.port c.args.process c.args.handle c.args.key in
    (refl, sym (row-stays test c.args.step.now.current (key.Packet c.args.port c.args.number) (sym c.is_cancelled.ensures ∙ c.if-is_cancelled.false)))
