-- Tables in which an object was exchanged with one alike, or was not.
use Rattle.std.proofs.Common.{◌≡◌, ℕ, Bool, true, false, Some, refl, sym, subst}
use Rattle.zt_rows.specs.declared.keys.RowKey.TheVariants as key
use Rattle.zt_rows.specs.declared.rows.ObjectRow.{ObjectRow}
use Rattle.zt_rows.specs.declared.rows.Row.TheVariants as rows
use Rattle.zt_cells.specs.declared.cells.row_tables.RowTables.{RowTables}
use Rattle.zt_cells.specs.ProofsOnly.RowTables.{Exchanged, IsCells}
use Rattle.zt_cells.proofs.CellsLaws.{cells-exchanged}

-- what holds of the cells holds still
pub cells-either : (c d : RowTables) (x : ℕ) (a b : ObjectRow) (places : ℕ) (done : Bool) → (done ≡ true → Exchanged c d (key.Object x) (Some (rows.Object a)) (Some (rows.Object b))) → (done ≡ false → d ≡ c) → IsCells c places → IsCells d places
cells-either c d x a b places true e same good = cells-exchanged c d (key.Object x) (Some (rows.Object a)) (Some (rows.Object b)) places (e refl) refl good
cells-either c d x a b places false e same good = subst (λ (t : RowTables). IsCells t places) (sym (same refl)) good
