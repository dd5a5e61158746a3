use Rattle.std.proofs.Common.{◌+◌, ap, sym, ◌∙◌}
use Rattle.std.proofs.lemmas.Result.{on_ok_weaker, on_err_weaker}
use Rattle.std.specs.List.{sum}
use Rattle.zt_rows.specs.declared.keys.RowKey.TheVariants as key
use Rattle.zt_cells.specs.ProofsOnly.TablePlaces.{lengths}
use Rattle.zt_cells.specs.TableSizes.{place_of}
use Rattle.zt_cells.proofs.RowTableLaws.{widened-Object, widened-Entry, widened-Msg, widened-Packet, widened-Wait, made-Object, made-Entry, made-Msg, made-Packet, made-Wait, places-Entry, places-Msg, places-Packet, on_ok_two}
use Rattle.zt_cells.proofs.PacketPlaces.{packets-grown}
use Rattle.zt_cells.proofs.cells.row_tables.RowTables.grow.Goals as goal

pub returns-in-Object-clause-widened : goal.returns-in-Object-clause-widened
returns-in-Object-clause-widened c =
    widened-Object c.args.self.now _ c.grow.ensures.cells c.grow.ensures.longer

pub returns-in-Object-clause-ok : goal.returns-in-Object-clause-ok
returns-in-Object-clause-ok c =
    let len = ap (λ z. z + 1) (c.place_of-len.ensures ∙ ap place_of c.in-Object.is) in
    on_ok_weaker c.grow.result (λ h. made-Object c.args.self.now c.args.key _ c.grow.new.self c.in-Object.is (h ∙ len)) c.grow.ensures.ok

pub returns-in-Entry-clause-widened : goal.returns-in-Entry-clause-widened
returns-in-Entry-clause-widened c =
    widened-Entry c.args.self.now _ c.grow-in-Entry.ensures.entries c.grow-in-Entry.ensures.longer

pub returns-in-Entry-clause-ok : goal.returns-in-Entry-clause-ok
returns-in-Entry-clause-ok c =
    on_ok_two c.grow-in-Entry.result (made-Entry c.args.self.now c.args.key _ _ c.grow-in-Entry.new.self c.in-Entry.is) c.grow-in-Entry.ensures.ok c.grow-in-Entry.ensures.counted

pub returns-in-Entry-clause-err : goal.returns-in-Entry-clause-err
returns-in-Entry-clause-err c =
    on_err_weaker c.grow-in-Entry.result (places-Entry c.args.self.now c.grow-in-Entry.new.self) c.grow-in-Entry.ensures.err

pub returns-in-Msg-clause-widened : goal.returns-in-Msg-clause-widened
returns-in-Msg-clause-widened c =
    widened-Msg c.args.self.now _ c.grow-in-Msg.ensures.cells c.grow-in-Msg.ensures.longer

pub returns-in-Msg-clause-ok : goal.returns-in-Msg-clause-ok
returns-in-Msg-clause-ok c =
    let is = (c.in-Msg.is ∙ ap (λ x. key.Msg x c.in-Msg.field-1) (sym c.owner.view_is)) in
    let len = ap (λ z. z + 1) (c.place_of-len.ensures ∙ ap place_of is) in
    on_ok_two c.grow-in-Msg.result (λ h g. made-Msg c.args.self.now c.args.key _ _ c.grow-in-Msg.new.self is (h ∙ len) (g ∙ ap (λ z. sum (lengths c.args.self.now.messages) + z) len)) c.grow-in-Msg.ensures.ok c.grow-in-Msg.ensures.counted

pub returns-in-Msg-clause-err : goal.returns-in-Msg-clause-err
returns-in-Msg-clause-err c =
    on_err_weaker c.grow-in-Msg.result (places-Msg c.args.self.now c.grow-in-Msg.new.self) c.grow-in-Msg.ensures.err

pub returns-in-Packet-clause-widened : goal.returns-in-Packet-clause-widened
returns-in-Packet-clause-widened c =
    widened-Packet c.args.self.now _ c.grow-in-Packet.ensures.cells c.grow-in-Packet.ensures.longer

pub returns-in-Packet-clause-ok : goal.returns-in-Packet-clause-ok
returns-in-Packet-clause-ok c =
    let is = (c.in-Packet.is ∙ ap (λ x. key.Packet x c.in-Packet.field-1) (sym c.owner-in-Packet.view_is)) in
    let len = ap (λ z. z + 1) (c.place_of-len.ensures ∙ ap place_of is) in
    on_ok_two c.grow-in-Packet.result (λ h g. made-Packet c.args.self.now c.args.key _ _ c.grow-in-Packet.new.self is (h ∙ len) (g ∙ ap (λ z. sum (lengths c.args.self.now.packets) + z) len)) c.grow-in-Packet.ensures.ok c.grow-in-Packet.ensures.counted

pub returns-in-Packet-clause-packets : goal.returns-in-Packet-clause-packets
returns-in-Packet-clause-packets c =
    let is = (c.in-Packet.is ∙ ap (λ x. key.Packet x c.in-Packet.field-1) (sym c.owner-in-Packet.view_is)) in
    let len = ap (λ z. z + 1) (c.place_of-len.ensures ∙ ap place_of is) in
    packets-grown c.args.self.now.packets c.grow-in-Packet.new.self c.args.key _ _ _ is len c.grow-in-Packet.ensures.others c.grow-in-Packet.ensures.bound

pub returns-in-Packet-clause-err : goal.returns-in-Packet-clause-err
returns-in-Packet-clause-err c =
    on_err_weaker c.grow-in-Packet.result (places-Packet c.args.self.now c.grow-in-Packet.new.self) c.grow-in-Packet.ensures.err

pub returns-in-Wait-clause-widened : goal.returns-in-Wait-clause-widened
returns-in-Wait-clause-widened c =
    widened-Wait c.args.self.now _ c.grow-in-Wait.ensures.cells c.grow-in-Wait.ensures.longer

pub returns-in-Wait-clause-ok : goal.returns-in-Wait-clause-ok
returns-in-Wait-clause-ok c =
    let len = ap (λ z. z + 1) (c.place_of-len.ensures ∙ ap place_of c.in-Wait.is) in
    on_ok_weaker c.grow-in-Wait.result (λ h. made-Wait c.args.self.now c.args.key _ c.grow-in-Wait.new.self c.in-Wait.is (h ∙ len)) c.grow-in-Wait.ensures.ok
