-- A row before a call, by the call's record and the row after it.
use Rattle.std.specs.Prelude.{List, Option}
use Rattle.std.specs.Option.{unwrap_or}
use Rattle.zt_rows.specs.declared.keys.RowKey.{RowKey}
use Rattle.zt_rows.specs.declared.rows.Row.{Row}
use Rattle.zt_rows.specs.State.{State, row}
use Rattle.zt_store.specs.RecordLook.{held}
use Rattle.zt_look.specs.declared.changes.Change.{Change}

-- what the record of the rows before has under the key, or else the row after
abbrev pub row_before : List (RowKey × Option Row) → RowKey → Option Row → Option Row
row_before R k r = unwrap_or (held R k) r

-- what stood under the key by the record, and what stands there in the state after
abbrev pub change_under : List (RowKey × Option Row) → State → RowKey → Change
change_under R T k = record { key = k; before = row_before R k (row T k); after = row T k }
