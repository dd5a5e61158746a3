use Rattle.zt_cells.proofs.CellsLaws.{first-packet}
use Rattle.zt_cells.proofs.cells.Cells.first_packet.Goals as goal

pub returns : goal.returns
returns c =
    first-packet c.self.inside.tables c.args.self.now c.self.view_is _ c.args.port c.port.view_is c.next_from.result c.next_from.ensures
