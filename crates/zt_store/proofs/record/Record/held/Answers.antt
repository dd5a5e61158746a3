-- A search finds the key's place where the record has the key.
use Rattle.std.proofs.Common.{ap, ◌∙◌, subst, sym, arith, get_or, length, List, Some}
use Rattle.zt_rows.specs.declared.keys.RowKey.{RowKey}
use Rattle.zt_store.specs.RecordLook.{held}
use Rattle.zt_store.specs.ProofsOnly.KeptRows.{pairs_of, rows_in, under_keys}
use Rattle.zt_store.specs.ProofsOnly.RecordRows.{IsSlotRecord}
use Rattle.zt_store.proofs.HeldLaws.{slot-found, held-missing}
use Rattle.zt_store.proofs.record.Record.held.Goals as goal

pub bounds-rows-place : goal.bounds-rows-place
bounds-rows-place c = omega (arith, c.in-Ok.ensures.bound, ap length c.keys.ensures, ap length c.rows.ensures, c.self.invariant.even)

pub returns-in-Ok : goal.returns-in-Ok
returns-in-Ok c =
    let P : List RowKey → Type 0 = λ ks. IsSlotRecord ks (rows_in c.self.inside.rows) in
    ap Some c.decode_slot.ensures
    ∙ slot-found c.keys.result.now (rows_in c.self.inside.rows) c.args.key c.in-Ok.place c.index-rows-place.result
    (subst P (sym c.keys.ensures) c.self.invariant) c.in-Ok.ensures.bound c.in-Ok.ensures.ok
    (c.index-rows-place.is ∙ ap (λ rs. get_or rs c.in-Ok.place c.index-rows-place.result) c.rows.ensures)
    ∙ ap (λ ks. held (pairs_of ks (rows_in c.self.inside.rows)) c.args.key) c.keys.ensures
    ∙ ap (λ R. held R c.args.key) c.self.view_is

pub returns-in-Err : goal.returns-in-Err
returns-in-Err c =
    let P : List RowKey → Type 0 = λ ks. IsSlotRecord ks (rows_in c.self.inside.rows) in
    let is : P c.keys.result.now = subst P (sym c.keys.ensures) c.self.invariant in
    held-missing c.keys.result.now (under_keys c.keys.result.now (rows_in c.self.inside.rows)) c.args.key c.in-Err.field-0 is.recorded
    c.in-Err.ensures.position
    ∙ ap (λ ks. held (pairs_of ks (rows_in c.self.inside.rows)) c.args.key) c.keys.ensures
    ∙ ap (λ R. held R c.args.key) c.self.view_is
