use Rattle.std.proofs.Common.{sym, ap, ◌∙◌, Some, is_some}
use Rattle.zt_rows.specs.State.{row}
use Rattle.zt_store.proofs.ColumnLaws.{first-found}
use Rattle.zt_store.proofs.key_columns.first_in.Goals as goal

pub returns-then-has_row : goal.returns-then-has_row
returns-then-has_row c =
    ap Some c.key-key.ensures
    ∙ first-found c.args.cells.now.state c.args.column.now c.args.from c.loop-number.number c.loop-number.auto.number
    (ap (λ k. is_some (row c.args.cells.now.state k)) (sym c.key-key.ensures) ∙ sym c.has_row.ensures ∙ c.if-has_row.true)
    c.loop-number.invariant
