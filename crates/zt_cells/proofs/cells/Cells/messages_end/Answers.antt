use Rattle.zt_cells.proofs.CellsLaws.{end-messages, places-messages}
use Rattle.zt_cells.proofs.cells.Cells.messages_end.Goals as goal

pub returns-clause-end : goal.returns-clause-end
returns-clause-end c =
    end-messages c.self.inside.tables c.args.self.now c.self.view_is _ c.args.endpoint c.endpoint.view_is c.len_of.result c.len_of.ensures

pub returns-clause-places : goal.returns-clause-places
returns-clause-places c =
    places-messages c.self.inside.tables c.args.self.now c.self.view_is _ c.args.endpoint c.endpoint.view_is c.len_of.result c.len_of.ensures
