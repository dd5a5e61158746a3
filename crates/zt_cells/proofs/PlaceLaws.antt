-- What is no row of counters stands for itself in a place.
use Rattle.std.proofs.Common.{◌≡◌, Some, refl}
use Rattle.zt_rows.specs.declared.rows.Row.{Row}
use Rattle.zt_rows.specs.declared.rows.Row.TheVariants as rows
use Rattle.zt_rows.specs.declared.rows.Counters.{Counters}
use Rattle.zt_cells.specs.RowSlots.{row_in}

pub row_in-other : (row : Row) → ((counters : Counters) → row ≡ rows.Counters counters → ⊥) → row_in row ≡ Some row
row_in-other (rows.Counters counters) other = absurd (other counters refl)
row_in-other (rows.Object _) other = refl
row_in-other (rows.Entry _) other = refl
row_in-other (rows.Msg _) other = refl
row_in-other (rows.Packet _) other = refl
row_in-other (rows.Wait _) other = refl

pub ruleset row_in_other = (row_in-other)
