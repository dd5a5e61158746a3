-- Keys at which two states may differ, and the rows that differ among those under them.
use Rattle.std.specs.Prelude.{◌≡◌, Bool, true, false, if◌then◌else◌, List, [], ◌∷◌, Option}
use Rattle.std.specs.BTreeSet.{BTreeSet, contains}
use Rattle.std.specs.List.{list_any}
use Rattle.zt_rows.specs.declared.keys.RowKey.{RowKey}
use Rattle.zt_rows.specs.declared.rows.Row.{Row}
use Rattle.zt_rows.specs.Change.{differ_at, option_row_eq}
use Rattle.zt_rows.specs.Keys.{rowkey_cmp, rowkey_eq}
use Rattle.zt_rows.specs.State.{State, row}
use Rattle.zt_look.specs.declared.changes.Change.{Change}

abbrev pub is_key_of : List RowKey → RowKey → Bool
is_key_of ks k = list_any (rowkey_eq k) ks

-- the set has each key at which the states differ
abbrev pub CoversChanges : State → State → BTreeSet RowKey → Type 0
CoversChanges S T keys = (k : RowKey) → differ_at S T k ≡ true → contains rowkey_cmp keys k ≡ true

-- a row without a key in the set is the same in both
abbrev pub IsSameBeside : State → State → BTreeSet RowKey → Type 0
IsSameBeside S T keys = (k : RowKey) → contains rowkey_cmp keys k ≡ false → row S k ≡ row T k

-- the row and that of the state under its key, if they differ
abbrev pub change_from : State → RowKey × Option Row → List Change
change_from T (k, r) = if option_row_eq r (row T k) then [] else record { key = k; before = r; after = row T k } ∷ []
