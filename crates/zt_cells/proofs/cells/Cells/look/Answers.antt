use Rattle.std.proofs.Common.{sym, ◌∙◌}
use Rattle.zt_cells.proofs.CellsLaws.{row-seen}
use Rattle.zt_cells.proofs.cells.Cells.look.Goals as goal

pub returns : goal.returns
returns c =
    c.row.ensures ∙ sym (row-seen c.self.inside.tables c.args.self.now c.self.view_is c.args.key)
