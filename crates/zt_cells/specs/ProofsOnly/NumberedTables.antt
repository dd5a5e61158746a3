-- Tables by owner as they stand in memory: numbers of tables, one for each owner, and the tables. Used by proofs only.
use Rattle.std.specs.Prelude.{◌≡◌, ◌≤◌, ◌<◌, ◌⊎◌, ℕ, List, Option, map, slice_index_or}
use Rattle.zt_rows.specs.declared.rows.Row.{Row}
use Rattle.zt_cells.specs.ProofsOnly.TablePlaces.{table}

-- the number of an owner that has no table
abbrev pub no_table : ℕ
no_table = 4294967295

-- the number of an owner's table
abbrev pub number_of : List ℕ → ℕ → ℕ
number_of numbers x = slice_index_or numbers x no_table

-- the tables of the owners that have these numbers, where one that has no table has no place
unfoldable pub numbered : List ℕ → List (List (Option Row)) → List (List (Option Row))
numbered numbers tables = map (table tables) numbers

-- each number is that of one of so many tables or of none, and no two owners have one table
pub record AreNumbers (numbers : List ℕ) (count : ℕ) : Type 0 where
  pub known : (x : ℕ) → (number_of numbers x < count) ⊎ (number_of numbers x ≡ no_table)
  pub apart : (x y : ℕ) → number_of numbers x ≡ number_of numbers y → number_of numbers x < count → x ≡ y
  pub few : count ≤ no_table
