use Rattle.zt_cells.proofs.CellsLaws.{end-objects, places-objects}
use Rattle.zt_cells.proofs.cells.Cells.objects_end.Goals as goal

pub returns-clause-end : goal.returns-clause-end
returns-clause-end c =
    end-objects c.self.inside.tables c.args.self.now c.self.view_is c.len.result c.len.ensures

pub returns-clause-places : goal.returns-clause-places
returns-clause-places c =
    places-objects c.self.inside.tables c.args.self.now c.self.view_is c.len.result c.len.ensures
