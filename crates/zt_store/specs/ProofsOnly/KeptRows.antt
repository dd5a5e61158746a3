-- The keys and the rows of a record, in whichever form they are kept. Used by proofs only.
use Rattle.std.specs.Prelude.{◌≡◌, ◌≤◌, ℕ, List, [], ◌∷◌, map, min, vec_capacity, Option, None, Some}
use Rattle.std.specs.Global.{Box}
use Rattle.std.specs.List.{zip}
use Rattle.zt_rows.specs.declared.keys.RowKey.{RowKey}
use Rattle.zt_rows.specs.declared.rows.Row.{Row}
use Rattle.zt_cells.specs.RowSlots.{decode_slot}
use Rattle.zt_store.specs.declared.kept_rows.KeptRows.{KeptRows}
use Rattle.zt_store.specs.declared.kept_rows.KeptRows.TheVariants as kept
use Rattle.zt_store.specs.declared.kept_rows.RowLists.{RowLists}

-- what the rows stand for, each under its key
abbrev pub rows_of : List (RowKey × Row) → List (RowKey × Option Row)
rows_of R = map (λ e. (e.0, decode_slot e.0 e.1)) R

-- what the rows stand for, each under the key at its place, as far as both lists reach
abbrev pub under_keys : List RowKey → List Row → List (Option Row)
under_keys [] rs = []
under_keys (k ∷ ks) [] = []
under_keys (k ∷ ks) (r ∷ rs) = decode_slot k r ∷ under_keys ks rs

abbrev pub pairs_of : List RowKey → List Row → List (RowKey × Option Row)
pairs_of ks rs = zip ks (under_keys ks rs)

abbrev pub keys_in : KeptRows → List RowKey
keys_in kept.NoRow = []
keys_in (kept.One b) = b.value.keys
keys_in (kept.Two b) = b.value.keys
keys_in (kept.Three b) = b.value.keys
keys_in (kept.Four b) = b.value.keys
keys_in (kept.Five b) = b.value.keys
keys_in (kept.Six b) = b.value.keys
keys_in (kept.Many b) = b.value.keys.items

abbrev pub rows_in : KeptRows → List Row
rows_in kept.NoRow = []
rows_in (kept.One b) = b.value.rows
rows_in (kept.Two b) = b.value.rows
rows_in (kept.Three b) = b.value.rows
rows_in (kept.Four b) = b.value.rows
rows_in (kept.Five b) = b.value.rows
rows_in (kept.Six b) = b.value.rows
rows_in (kept.Many b) = b.value.rows.items

-- these are the keys and the rows of the list, each row at the place of its key
pub record AreOf (ks : List RowKey) (rs : List Row) (R : List (RowKey × Row)) : Type 0 where
  pub keys : ks ≡ map (λ e. e.0) R
  pub rows : rs ≡ map (λ e. e.1) R

-- for how many rows the lists have room
abbrev pub room_of : RowLists → ℕ
room_of l = min (vec_capacity l.keys) (vec_capacity l.rows)

-- for how many rows the lists have room, 0 where there are no lists
abbrev pub room_in : Option (Box RowLists) → ℕ
room_in None = 0
room_in (Some b) = room_of b.value

-- for so many rows there is room in the lists, and for as many places
pub record AreRoomy (room : ℕ) (lists : Option (Box RowLists)) (places : ℕ) : Type 0 where
  pub rows : room ≤ room_in lists
  pub listed : room ≤ places
