use Rattle.zt_cells.proofs.CellsLaws.{next-packet}
use Rattle.zt_cells.proofs.cells.Cells.next_packet.Goals as goal

pub returns : goal.returns
returns c =
    next-packet c.self.inside.tables c.args.self.now c.self.view_is _ c.args.port c.port.view_is c.args.from c.next_from.result c.next_from.ensures
