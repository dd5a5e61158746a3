-- A look into a record.
use Rattle.std.specs.Prelude.{List, Option}
use Rattle.std.specs.FinMap.Entries as entries
use Rattle.zt_rows.specs.declared.keys.RowKey.{RowKey}
use Rattle.zt_rows.specs.declared.rows.Row.{Row}
use Rattle.zt_rows.specs.Keys.{rowkey_cmp}

-- the row, or none, that the record has under the key, if it has the key
abbrev pub held : List (RowKey × Option Row) → RowKey → Option (Option Row)
held R k = entries.find rowkey_cmp k R
