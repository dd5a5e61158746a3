-- A step as it is seen: the state at its beginning, the state after the puts so far, the keys that were put in the
-- order of their first puts, and the places of the store that it changes.
use Rattle.std.specs.Prelude.{◌≡◌, Bool, false, if◌then◌else◌, List, [], ◌∷◌, ◌++◌, Option}
use Rattle.std.specs.List.{list_any}
use Rattle.zt_rows.specs.declared.keys.RowKey.{RowKey}
use Rattle.zt_rows.specs.declared.rows.Row.{Row}
use Rattle.zt_rows.specs.Keys.{rowkey_eq}
use Rattle.zt_rows.specs.State.{State, row, put}
use Rattle.zt_store.specs.Places.{Places}

pub record Stepping : Type 0 where
  pub beginning : State
  pub current : State
  pub touched : List RowKey
  pub places : Places

-- the key is in the list
abbrev pub listed : List RowKey → RowKey → Bool
listed ks k = list_any (rowkey_eq k) ks

-- the list with the key behind the others, unless it is there already
abbrev pub with_key : List RowKey → RowKey → List RowKey
with_key ks k = if listed ks k then ks else ks ++ k ∷ []

-- a step over this state with nothing put yet
abbrev pub begun : State → Places → Stepping
begun S p = record { beginning = S; current = S; touched = []; places = p }

-- the step after one more put, with these places
abbrev pub put_on : Stepping → Places → RowKey → Option Row → Stepping
put_on s p k r = record { beginning = s.beginning; current = put s.current k r; touched = with_key s.touched k; places = p }

-- the step went on to the state T
abbrev pub Advanced : Stepping → Stepping → State → Type 0
Advanced old new T = (new.beginning ≡ old.beginning) × (new.current ≡ T)

-- the step is as it was begun
abbrev pub AsBegun : Stepping → Stepping → Type 0
AsBegun old new = new ≡ begun old.beginning new.places

-- under other keys than those that were put, the rows are as at the beginning
abbrev pub DiffersAtTouched : Stepping → Type 0
DiffersAtTouched s = (k : RowKey) → listed s.touched k ≡ false → row s.current k ≡ row s.beginning k

-- nothing is put yet: the step is as it was begun over the state that it has
abbrev pub IsAtRest : Stepping → Type 0
IsAtRest s = s ≡ begun s.current s.places
