use Rattle.std.proofs.Common.{sym, ap, refl, ◌∙◌}
use Rattle.zt_rows.specs.declared.keys.RowKey.TheVariants as key
use Rattle.zt_cells.proofs.RowTableLaws.{exchanged-under, under_same, exchanged-Counters, exchanged-Object, exchanged-Entry, exchanged-Msg, exchanged-Packet, exchanged-Wait}
use Rattle.zt_cells.proofs.cells.row_tables.RowTables.exchange.Goals as goal

pub returns-in-Counters : goal.returns-in-Counters
returns-in-Counters c =
    exchanged-Counters c.args.self.now c.args.key _ _ _ c.in-Counters.is c.swap.ensures.x_after c.swap.ensures.y_after

pub returns-in-Object : goal.returns-in-Object
returns-in-Object c =
    exchanged-under c.args.self.now _ c.args.key _ _ (under_same _ _ c.in-Object.is (λ r. refl))
    (exchanged-Object c.args.self.now c.args.key _ _ _ _ (c.in-Object.is ∙ ap key.Object (sym c.koid.view_is)) c.requires c.exchange.ensures.put c.exchange.ensures.was)

pub returns-in-Entry : goal.returns-in-Entry
returns-in-Entry c =
    exchanged-under c.args.self.now _ c.args.key _ _ (under_same _ _ c.in-Entry.is (λ r. refl))
    (exchanged-Entry c.args.self.now c.args.key _ _ _ _ _ c.in-Entry.is c.requires c.exchange-in-Entry.ensures.put c.exchange-in-Entry.ensures.was)

pub returns-in-Msg : goal.returns-in-Msg
returns-in-Msg c =
    exchanged-under c.args.self.now _ c.args.key _ _ (under_same _ _ c.in-Msg.is (λ r. refl))
    (exchanged-Msg c.args.self.now c.args.key _ _ _ _ _ (c.in-Msg.is ∙ ap (λ x. key.Msg x c.in-Msg.number) (sym c.owner.view_is)) c.requires c.exchange-in-Msg.ensures.put c.exchange-in-Msg.ensures.was)

pub returns-in-Packet : goal.returns-in-Packet
returns-in-Packet c =
    exchanged-under c.args.self.now _ c.args.key _ _ (under_same _ _ c.in-Packet.is (λ r. refl))
    (exchanged-Packet c.args.self.now c.args.key _ _ _ _ _ (c.in-Packet.is ∙ ap (λ x. key.Packet x c.in-Packet.number) (sym c.owner-in-Packet.view_is)) c.requires c.exchange-in-Packet.ensures.put c.exchange-in-Packet.ensures.was)

pub returns-in-Wait : goal.returns-in-Wait
returns-in-Wait c =
    exchanged-under c.args.self.now _ c.args.key _ _ (under_same _ _ c.in-Wait.is (λ r. refl))
    (exchanged-Wait c.args.self.now c.args.key _ _ _ _ c.in-Wait.is c.requires c.exchange-in-Wait.ensures.put c.exchange-in-Wait.ensures.was)
