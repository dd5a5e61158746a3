use Rattle.zt_cells.proofs.MarkedPlaceLaws.{marks-none}
use Rattle.zt_cells.proofs.cells.marked_table.MarkedTable.new.Goals as goal

pub invariant_of-result : goal.invariant_of-result
invariant_of-result c = marks-none c.new-2.result c.new.result c.new-2.ensures c.new.ensures
