-- How cells are seen: the rows, and the places that they have for rows.
use Rattle.zt_rows.specs.State.{State}
use Rattle.zt_cells.specs.TableSizes.{TableSizes}

-- the rows, and the places for rows
pub record CellsView : Type 0 where
  pub state : State
  pub sizes : TableSizes
