use Rattle.std.proofs.Common.{arith}
use Rattle.zt_store.proofs.SlotLaws.{length-under_keys}
use Rattle.zt_store.proofs.HeldLaws.{key-at-place, place-rows}
use Rattle.zt_store.proofs.record.RecordRows.key.Goals as goal

pub bounds-keys-place : goal.bounds-keys-place
bounds-keys-place c = omega (arith, place-rows _ _ _ c.self.invariant.recorded c.self.view_is _ c.requires, length-under_keys _ _ c.self.invariant.even)

pub offset_bounds-keys-place : goal.offset_bounds-keys-place
offset_bounds-keys-place c =
    omega (arith, place-rows _ _ _ c.self.invariant.recorded c.self.view_is _ c.requires, length-under_keys _ _ c.self.invariant.even, c.self.told.0)

pub returns : goal.returns
returns c = key-at-place _ _ _ c.self.invariant.recorded c.self.view_is _ c.requires _ c.index-keys-place.is
