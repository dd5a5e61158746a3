-- What the debugger knows of a system at one moment: rows under their keys, each key once and in rising
-- order, so that two states with the same rows are one. This project's own form.
use Rattle.std.specs.Prelude.{T, List, [], ◌∷◌, Option, None, Some, not}
use Rattle.std.specs.FinMap.Entries as entries
use Rattle.zt_rows.specs.declared.keys.RowKey.{RowKey}
use Rattle.zt_rows.specs.declared.rows.Row.{Row}
use Rattle.zt_rows.specs.Keys.{rowkey_cmp, rowkey_eq}
use Rattle.zt_rows.specs.RowOrder.{changed_rows}
use Rattle.zt_rows.specs.ProofsOnly.RowOrder.{is_sorted-put, is_sorted-without, is_sorted-changed}

pub record State : Type 0 where
  pub rows : List (RowKey × Row)
  pub sorted : T (entries.is_sorted rowkey_cmp rows)

-- the row under a key
unfoldable pub row : State → RowKey → Option Row
row S k = entries.find rowkey_cmp k S.rows

-- the state with this row under the key, or with none
unfoldable pub put : State → RowKey → Option Row → State
put S k (Some r) = record { rows = entries.put rowkey_cmp k r S.rows; sorted = is_sorted-put k r S.rows S.sorted }
put S k None =
    record { rows = entries.where_key rowkey_cmp (λ q. not (rowkey_eq q k)) S.rows; sorted = is_sorted-without k S.rows S.sorted }

-- each row r under a key k becomes f k r, or goes
unfoldable pub change : (RowKey → Row → Option Row) → State → State
change f S = record { rows = changed_rows f S.rows; sorted = is_sorted-changed f S.rows S.sorted }

-- no row at all
abbrev pub nothing : State
nothing = record { rows = []; sorted = tt }

-- the state of a list of rows; at a key that stands twice the first counts
abbrev pub state_of : List (RowKey × Row) → State
state_of [] = nothing
state_of (e ∷ es) = put (state_of es) e.0 (Some e.1)
