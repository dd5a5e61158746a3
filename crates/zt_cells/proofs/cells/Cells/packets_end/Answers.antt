use Rattle.zt_cells.proofs.CellsLaws.{end-packets, places-packets}
use Rattle.zt_cells.proofs.cells.Cells.packets_end.Goals as goal

pub returns-clause-end : goal.returns-clause-end
returns-clause-end c =
    end-packets c.self.inside.tables c.args.self.now c.self.view_is _ c.args.port c.port.view_is c.len_of.result c.len_of.ensures

pub returns-clause-places : goal.returns-clause-places
returns-clause-places c =
    places-packets c.self.inside.tables c.args.self.now c.self.view_is _ c.args.port c.port.view_is c.len_of.result c.len_of.ensures
