use Rattle.std.proofs.Common.{ap, ◌∙◌}
use Rattle.zt_cells.specs.CellsView.{CellsView}
use Rattle.zt_cells.specs.TableSizes.{has_place}
use Rattle.zt_cells.proofs.cells.Cells.has_place.Goals as goal

pub returns : goal.returns
returns c =
    c.has_place.ensures
    ∙ ap (λ (s : CellsView). has_place s.sizes c.args.key) c.self.view_is
