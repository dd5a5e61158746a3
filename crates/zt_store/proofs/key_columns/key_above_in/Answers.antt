use Rattle.std.proofs.Common.{◌∙◌}
use Rattle.zt_store.proofs.ColumnLaws.{find-above, find-above_none}
use Rattle.zt_store.proofs.key_columns.key_above_in.Goals as goal

pub returns-then-number-end : goal.returns-then-number-end
returns-then-number-end c = c.key_from.ensures ∙ find-above c.args.cells.now.state c.args.column c.args.number

pub returns-else-number-end : goal.returns-else-number-end
returns-else-number-end c =
    c.key_from-else-number-end.ensures
    ∙ find-above_none c.args.cells.now.state c.args.column c.args.number (c.end.ensures.past c.args.number c.if-number-end.false)
