-- An exchange of an object with one that has the same kind, life and link, so that it counts for the same supports.
use Rattle.std.specs.Prelude.{◌≡◌, ℕ, Some}
use Rattle.zt_rows.specs.declared.keys.RowKey.TheVariants as key
use Rattle.zt_rows.specs.declared.rows.ObjectRow.{ObjectRow}
use Rattle.zt_rows.specs.declared.rows.Row.TheVariants as rows
use Rattle.zt_rows.specs.State.{row, put}
use Rattle.zt_cells.specs.CellsView.{CellsView}

-- the objects have the same kind, life and link
pub record AreAlike (a b : ObjectRow) : Type 0 where
  pub kind : a.kind ≡ b.kind
  pub life : a.life ≡ b.life
  pub link : a.link ≡ b.link

-- the object of the koid was exchanged with one alike, and nothing else changed
pub record AlikeExchanged (old new : CellsView) (x : ℕ) (inward outward : ObjectRow) : Type 0 where
  pub put : new ≡ record { state = put old.state (key.Object x) (Some (rows.Object inward)); sizes = old.sizes }
  pub was : Some (rows.Object outward) ≡ row old.state (key.Object x)
  pub alike : AreAlike outward inward
