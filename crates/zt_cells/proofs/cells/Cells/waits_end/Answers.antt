use Rattle.zt_cells.proofs.CellsLaws.{end-waits, places-waits}
use Rattle.zt_cells.proofs.cells.Cells.waits_end.Goals as goal

pub returns-clause-end : goal.returns-clause-end
returns-clause-end c =
    end-waits c.self.inside.tables c.args.self.now c.self.view_is c.len.result c.len.ensures

pub returns-clause-places : goal.returns-clause-places
returns-clause-places c =
    places-waits c.self.inside.tables c.args.self.now c.self.view_is c.len.result c.len.ensures
