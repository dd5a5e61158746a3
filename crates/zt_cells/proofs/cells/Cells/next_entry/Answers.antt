use Rattle.zt_cells.proofs.CellsLaws.{next-entry}
use Rattle.zt_cells.proofs.cells.Cells.next_entry.Goals as goal

pub returns : goal.returns
returns c =
    next-entry c.self.inside.tables c.args.self.now c.self.view_is c.args.process c.args.from c.next_from.result c.next_from.ensures
