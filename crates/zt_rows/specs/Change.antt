-- What differs between two states, the record of what was there before, and the exchange of a record's rows
-- with a state's. This project's own: the ground of stepping back.
use Rattle.std.specs.Prelude.{Bool, true, false, not, List, [], ◌∷◌, map, filter, Option, None, Some}
use Rattle.zt_rows.specs.declared.keys.RowKey.{RowKey}
use Rattle.zt_rows.specs.declared.rows.Row.{Row}
use Rattle.zt_rows.specs.Same.{row_eq}
use Rattle.zt_rows.specs.State.{State, row, put}

-- the keys of a state, in order
abbrev pub keys : State → List RowKey
keys S = map (λ e. e.0) S.rows

-- each row of the list in its place in S
abbrev pub over : List (RowKey × Row) → State → State
over [] S = S
over (e ∷ es) S = put (over es S) e.0 (Some e.1)

-- the keys at which S or T has a row, in order, each once
unfoldable pub keys_of_both : State → State → List RowKey
keys_of_both S T = keys (over S.rows T)

abbrev pub option_row_eq : Option Row → Option Row → Bool
option_row_eq (Some a) (Some b) = row_eq a b
option_row_eq None None = true
option_row_eq _ _ = false

-- S and T have different rows under the key
abbrev pub differ_at : State → State → RowKey → Bool
differ_at S T k = not (option_row_eq (row S k) (row T k))

-- the keys at which S and T differ, in order, each once
unfoldable pub changed : State → State → List RowKey
changed S T = filter (differ_at S T) (keys_of_both S T)

-- the rows of S, or none, under these keys
abbrev pub rows_under : State → List RowKey → List (RowKey × Option Row)
rows_under S ks = map (λ k. (k, row S k)) ks

-- the record of S before a change to T: each key at which they differ, with the row of S or none
unfoldable pub before : State → State → List (RowKey × Option Row)
before S T = rows_under S (changed S T)

-- S with the record's rows in place of its own
abbrev pub with_rows : State → List (RowKey × Option Row) → State
with_rows S [] = S
with_rows S (e ∷ es) = put (with_rows S es) e.0 e.1

-- the record's keys with the rows of S
abbrev pub rows_at : State → List (RowKey × Option Row) → List (RowKey × Option Row)
rows_at S R = map (λ e. (e.0, row S e.0)) R

-- the state and the record after they exchanged their rows
abbrev pub exchange : State → List (RowKey × Option Row) → State × List (RowKey × Option Row)
exchange S R = (with_rows S R, rows_at S R)
