use Rattle.std.proofs.Common.{◌≡◌, ◌<◌, Option, Some, ap, get_or, length, sym, ◌∙◌, arith}
use Rattle.zt_rows.specs.declared.rows.Row.{Row}
use Rattle.zt_cells.specs.RowSlots.{decode_slot}
use Rattle.zt_store.specs.ProofsOnly.KeptRows.{under_keys}
use Rattle.zt_store.proofs.SlotLaws.{length-under_keys, under_keys-at}
use Rattle.zt_store.proofs.HeldLaws.{held-at, held-under, place-rows}
use Rattle.zt_store.proofs.record.RecordRows.row.Goals as goal

pub bounds-keys-place : goal.bounds-keys-place
bounds-keys-place c = omega (arith, place-rows _ _ _ c.self.invariant.recorded c.self.view_is _ c.requires, length-under_keys _ _ c.self.invariant.even)

pub offset_bounds-keys-place : goal.offset_bounds-keys-place
offset_bounds-keys-place c =
    omega (arith, place-rows _ _ _ c.self.invariant.recorded c.self.view_is _ c.requires, length-under_keys _ _ c.self.invariant.even, c.self.told.0)

pub bounds-rows-place : goal.bounds-rows-place
bounds-rows-place c =
    omega (arith, place-rows _ _ _ c.self.invariant.recorded c.self.view_is _ c.requires, length-under_keys _ _ c.self.invariant.even, c.self.invariant.even)

pub offset_bounds-rows-place : goal.offset_bounds-rows-place
offset_bounds-rows-place c =
    omega (arith, place-rows _ _ _ c.self.invariant.recorded c.self.view_is _ c.requires, length-under_keys _ _ c.self.invariant.even, c.self.invariant.even, c.self.told.1)

there : (c : goal.After-decode_slot) → c.args.place < length c.self.inside.keys.now
there c = omega (arith, place-rows _ _ _ c.self.invariant.recorded c.self.view_is _ c.requires, length-under_keys _ _ c.self.invariant.even)

abbrev held_row : goal.After-decode_slot → Option Row
held_row c = decode_slot c.index-keys-place.result c.index-rows-place.result

at_place : (c : goal.After-decode_slot) → held_row c ≡ get_or (under_keys c.self.inside.keys.now c.self.inside.rows.now) c.args.place (held_row c)
at_place c = under_keys-at _ _ _ _ _ c.self.invariant.even (there c) c.index-keys-place.is c.index-rows-place.is

pub returns-clause-row : goal.returns-clause-row
returns-clause-row c = held-at _ _ _ c.self.invariant.recorded c.self.view_is _ c.requires _ (at_place c) ∙ ap Some (sym c.decode_slot.ensures)

pub returns-clause-held : goal.returns-clause-held
returns-clause-held c =
    held-under _ _ _ c.self.invariant.recorded c.self.view_is _ c.requires _ (held-at _ _ _ c.self.invariant.recorded c.self.view_is _ c.requires _ (at_place c) ∙ ap Some (sym c.decode_slot.ensures))
