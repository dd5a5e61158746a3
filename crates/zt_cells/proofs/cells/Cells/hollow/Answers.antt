use Rattle.std.proofs.Common.{refl}
use Rattle.zt_cells.proofs.CellsLaws.{cells-of}
use Rattle.zt_cells.proofs.cells.Cells.hollow.Goals as goal

pub invariant_of-result : goal.invariant_of-result
invariant_of-result c = rw c.new.ensures (cells-of _ refl)
