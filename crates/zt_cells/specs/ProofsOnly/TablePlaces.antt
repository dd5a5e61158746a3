-- Places for rows: a table of places from 0 on, and tables by owner, one for each from 0 on. Used by proofs only.
use Rattle.std.specs.Prelude.{◌≡◌, ◌≤◌, ◌<◌, ◌^◌, ◌%◌, ◌/◌, ℕ, List, [], Option, None, IsSome, slice_index_or, slice_set, length, map}
use Rattle.std.specs.List.{sum}
use Rattle.std.specs.Option.{MatchOption}
use Rattle.zt_rows.specs.declared.rows.Row.{Row}

-- the row at a place, or none, also where there is no such place
abbrev pub cell : List (Option Row) → ℕ → Option Row
cell places n = slice_index_or places n None

-- the places of an owner
abbrev pub table : List (List (Option Row)) → ℕ → List (Option Row)
table tables x = slice_index_or tables x []

-- the row at an owner's place
abbrev pub cell_at : List (List (Option Row)) → ℕ → ℕ → Option Row
cell_at tables x n = cell (table tables x) n

-- the tables with this row, or none, at an owner's place
abbrev pub set_at : List (List (Option Row)) → ℕ → ℕ → Option Row → List (List (Option Row))
set_at tables x n row = slice_set tables x (slice_set (table tables x) n row)

-- how many places the tables by owner have
abbrev pub lengths : List (List (Option Row)) → List ℕ
lengths tables = map length tables

-- from this place on this one is the first with a row
pub record IsNextCellAt (places : List (Option Row)) (from n : ℕ) : Type 0 where
  pub from_there : from ≤ n
  pub there : IsSome (cell places n)
  pub first : (m : ℕ) → from ≤ m → m < n → cell places m ≡ None

-- the first place with a row from this one on, or none where all from there on are empty
abbrev pub IsNextCell : List (Option Row) → ℕ → Option ℕ → Type 0
IsNextCell places from found =
    MatchOption found ((n : ℕ) → from ≤ n → cell places n ≡ None) (IsNextCellAt places from)

-- the tables of the entries whose values leave this remainder
abbrev pub by_owner : List (List (List (Option Row))) → ℕ → List (List (Option Row))
by_owner sizes r = slice_index_or sizes r []

-- the row of the entry of a process under a value
abbrev pub entry : List (List (List (Option Row))) → ℕ → ℕ → Option Row
entry sizes p h = cell_at (by_owner sizes (h % 4)) p (h / 4)

-- the places of a process for entries under values that leave the remainder of this one
abbrev pub entry_table : List (List (List (Option Row))) → ℕ → ℕ → List (Option Row)
entry_table sizes p h = table (by_owner sizes (h % 4)) p

-- the entries with this row, or none, under a value
abbrev pub set_entry : List (List (List (Option Row))) → ℕ → ℕ → Option Row → List (List (List (Option Row)))
set_entry sizes p h row = slice_set sizes (h % 4) (set_at (by_owner sizes (h % 4)) p (h / 4) row)

-- no table has more places than there are handle values that leave one remainder
abbrev pub IsNarrow : List (List (List (Option Row))) → Type 0
IsNarrow sizes = (r x : ℕ) → length (table (by_owner sizes r) x) ≤ 2 ^ 30

-- how many places all these tables have
abbrev pub entry_places : List (List (List (Option Row))) → ℕ
entry_places sizes = sum (map (λ tables. sum (lengths tables)) sizes)
