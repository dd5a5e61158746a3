use Rattle.std.proofs.Common.{◌≡◌}
use Rattle.std.specs.List.{find}
use Rattle.zt_rows.specs.Change.{keys}
use Rattle.zt_store.specs.ProofsOnly.KeyColumns.{key_in, is_from}
use Rattle.zt_store.proofs.ColumnLaws.{columns_left}
use Rattle.zt_store.proofs.key_columns.key_from.Given as goal

-- what is left decides
abbrev pub invariant-columns : goal.invariant-columns
invariant-columns l =
    find (is_from (key_in l.column l.low)) (keys l.cells.state) ≡ find (is_from (key_in l.fn.first l.from)) (keys l.cells.state)

abbrev pub decreases-columns : goal.decreases-columns
decreases-columns l = columns_left l.owners l.column
