-- An exchange of an object with one alike, in the row that it is. Used by proofs only.
use Rattle.std.specs.Prelude.{◌≡◌, ℕ, List, Option, Some, slice_set}
use Rattle.zt_rows.specs.declared.rows.ObjectRow.{ObjectRow}
use Rattle.zt_rows.specs.declared.rows.Row.{Row}
use Rattle.zt_rows.specs.declared.rows.Row.TheVariants as rows
use Rattle.zt_cells.specs.AlikeObjects.{AreAlike}
use Rattle.zt_cells.specs.ProofsOnly.TablePlaces.{cell}

-- the row was an object alike, and is the object now
pub record AlikeRows (old new : Row) (inward outward : ObjectRow) : Type 0 where
  pub put : new ≡ rows.Object inward
  pub was : rows.Object outward ≡ old
  pub alike : AreAlike outward inward

-- the place had an object alike, and has the object now
pub record AlikePlaces (old new : Option Row) (inward outward : ObjectRow) : Type 0 where
  pub put : new ≡ Some (rows.Object inward)
  pub was : Some (rows.Object outward) ≡ old
  pub alike : AreAlike outward inward

-- the object at a place was exchanged with one alike
pub record AlikeCells (old new : List (Option Row)) (x : ℕ) (inward outward : ObjectRow) : Type 0 where
  pub put : new ≡ slice_set old x (Some (rows.Object inward))
  pub was : Some (rows.Object outward) ≡ cell old x
  pub alike : AreAlike outward inward
