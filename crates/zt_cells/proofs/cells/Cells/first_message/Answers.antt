use Rattle.zt_cells.proofs.CellsLaws.{first-message}
use Rattle.zt_cells.proofs.cells.Cells.first_message.Goals as goal

pub returns : goal.returns
returns c =
    first-message c.self.inside.tables c.args.self.now c.self.view_is _ c.args.endpoint c.endpoint.view_is c.next_from.result c.next_from.ensures
