use Rattle.std.proofs.Common.{◌≡◌, Some, sym, ◌∙◌}
use Rattle.zt_store.specs.ProofsOnly.KeyColumns.{next_column}
use Rattle.zt_store.proofs.ColumnLaws.{OwnersEnd, next-found, last-found}
use Rattle.zt_store.proofs.key_columns.key_from.Goals as goal

pub returns-in-None : goal.returns-in-None
returns-in-None c =
    sym (last-found c.args.cells.now.state c.owners_end-owners.result c.columns.column c.columns.low c.in_default.ensures (sym c.next.ensures ∙ c.in-None.is))
    ∙ c.columns.invariant

pub columns-preserved : goal.columns-preserved
columns-preserved c =
    let ends : OwnersEnd c.args.cells.now.state c.owners_end-owners.result = record {
      entries = λ x h e. c.owners_end-owners.ensures.entries x h e;
      messages = λ x n e. c.owners_end-owners.ensures.messages x n e;
      packets = λ x n e. c.owners_end-owners.ensures.packets x n e;
    } in
    let is : next_column c.owners_end-owners.result c.columns.column ≡ Some c.in-Some-next.next = sym c.next.ensures ∙ c.in-Some-next.is in
    sym (next-found c.args.cells.now.state c.owners_end-owners.result c.columns.column c.in-Some-next.next c.columns.low ends c.in_default.ensures is)
    ∙ c.columns.invariant
