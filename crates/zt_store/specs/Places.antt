-- What a store has room for without taking memory: rows under keys, and numbers by koid.
use Rattle.std.specs.Prelude.{◌≡◌, ℕ, Bool, true, ◌&&◌, List, [], ◌∷◌, Option}
use Rattle.zt_rows.specs.declared.keys.RowKey.{RowKey}
use Rattle.zt_rows.specs.declared.rows.Row.{Row}
use Rattle.zt_cells.specs.TableSizes.{TableSizes, has_place, no_sizes}
use Rattle.zt_index.specs.KoidCounts.{counts_within_if}

-- the places for rows, and for how many koids numbers are kept
pub record Places : Type 0 where
  pub sizes : TableSizes
  pub koids : ℕ

abbrev pub no_places : Places
no_places = record { sizes = no_sizes; koids = 0 }

-- the key has its place, and so has each koid that the row counts for
abbrev pub fits_row : Places → RowKey → Option Row → Bool
fits_row p k r = has_place p.sizes k && counts_within_if p.koids k r

-- each key of the record has its place, and so has each koid that its rows count for: the rows can be exchanged
-- with the store's
unfoldable pub fits : Places → List (RowKey × Option Row) → Bool
fits p [] = true
fits p (e ∷ es) = fits_row p e.0 e.1 && fits p es

-- what fitted before fits still
abbrev pub Keeps : Places → Places → Type 0
Keeps old new = (R : List (RowKey × Option Row)) → fits old R ≡ true → fits new R ≡ true
