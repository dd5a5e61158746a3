-- All tables of a store together: what stands in the place of a key, the state of all that stands there, and how
-- many places there are. Used by proofs only.
use Rattle.std.specs.Prelude.{◌≡◌, ℕ, suc, ◌+◌, ◌*◌, ◌≤◌, ◌^◌, List, [], ◌∷◌, Option, Some, cond, length, map}
use Rattle.std.specs.List.{sum}
use Rattle.zt_rows.specs.declared.keys.RowKey.{RowKey}
use Rattle.zt_rows.specs.declared.keys.RowKey.TheVariants as key
use Rattle.zt_rows.specs.declared.rows.Row.{Row}
use Rattle.zt_rows.specs.Keys.{rowkey_eq}
use Rattle.zt_rows.specs.Room.{SuitsKey}
use Rattle.zt_rows.specs.State.{State, put, nothing}
use Rattle.zt_cells.specs.ProofsOnly.TablePlaces.{cell, cell_at, entry, by_owner, lengths, entry_places}
use Rattle.zt_cells.specs.TableSizes.{TableSizes, place_of, length_at}
use Rattle.zt_cells.specs.declared.cells.row_tables.RowTables.{RowTables}

-- what stands in the place of a key, or none where there is no such place
unfoldable pub look : RowTables → RowKey → Option Row
look c key.Counters = Some c.counters
look c (key.Object x) = cell c.objects x
look c (key.Entry p h) = entry c.entries p h
look c (key.Msg e n) = cell_at c.messages e n
look c (key.Packet p n) = cell_at c.packets p n
look c (key.Wait n) = cell c.waits n

-- the places
unfoldable pub sizes_of : RowTables → TableSizes
sizes_of c =
    record { objects = length c.objects; entries = map lengths c.entries; messages = lengths c.messages; packets = lengths c.packets; waits = length c.waits }

-- how many places there are, but for that of the counters
unfoldable pub places_in : RowTables → ℕ
places_in c =
    length c.objects + entry_places c.entries + sum (lengths c.messages) + sum (lengths c.packets) + length c.waits

-- no row but this one of the counters, and no other place
abbrev pub row_tables_of : Row → RowTables
row_tables_of counters =
    record { counters = counters; objects = []; entries = [] ∷ [] ∷ [] ∷ [] ∷ []; messages = []; packets = []; waits = [] }

-- ---- the state

-- the state with the rows of a table put, from the key of place 0 on
abbrev pub put_cells : (ℕ → RowKey) → List (Option Row) → State → State
put_cells key_of [] S = S
put_cells key_of (row ∷ rows) S = put (put_cells (λ n. key_of (suc n)) rows S) (key_of 0) row

-- the state with the rows of all tables put, each under the key of its table's owner and its place, both from 0 on
abbrev pub put_tables : (ℕ → ℕ → RowKey) → List (List (Option Row)) → State → State
put_tables key_of [] S = S
put_tables key_of (table ∷ tables) S =
    put_cells (key_of 0) table (put_tables (λ x. key_of (suc x)) tables S)

-- the key of an entry in the handle tables, by the remainder of its value, its process and its place
abbrev pub entry_key : ℕ → ℕ → ℕ → RowKey
entry_key r p n = key.Entry p (4 * n + r)

abbrev pub put_entries : List (List (List (Option Row))) → ℕ → State → State
put_entries sizes r S = put_tables (entry_key r) (by_owner sizes r) S

-- the state of all rows in their places
unfoldable pub state_in : RowTables → State
state_in c =
    put_cells key.Object c.objects (put_cells key.Wait c.waits (put_tables key.Msg c.messages (put_tables key.Packet c.packets (put_entries c.entries 0 (put_entries c.entries 1 (put_entries c.entries 2 (put_entries c.entries 3 (put nothing key.Counters (Some c.counters)))))))))

-- ---- changes

-- the row under a key was exchanged, and nothing else changed
pub record Exchanged (old new : RowTables) (k : RowKey) (inward outward : Option Row) : Type 0 where
  pub out : outward ≡ look old k
  pub looks : (q : RowKey) → look new q ≡ cond (rowkey_eq q k) inward (look old q)
  pub sizes : sizes_of new ≡ sizes_of old

-- there are more places, and each row stands where it was
pub record Widened (old new : RowTables) : Type 0 where
  pub looks : (q : RowKey) → look new q ≡ look old q
  pub longer : (q : RowKey) → length_at (sizes_of old) q ≤ length_at (sizes_of new) q

-- the key has its place now, and all places up to it are counted
pub record MadeFor (k : RowKey) (old new : RowTables) : Type 0 where
  pub there : place_of k + 1 ≤ length_at (sizes_of new) k
  pub counted : places_in new + length_at (sizes_of old) k ≡ places_in old + place_of k + 1

-- ---- what holds of the cells

-- each row suits its key, and places are counted and not too many
pub record IsCells (c : RowTables) (places : ℕ) : Type 0 where
  pub suited : (k : RowKey) → SuitsKey k (look c k)
  pub counted : places_in c ≤ places
  pub few : places ≤ 2 ^ 48
