use Rattle.std.proofs.Common.{sym, ◌∙◌, subst}
use Rattle.zt_cells.specs.ProofsOnly.TablePlaces.{IsNarrow}
use Rattle.zt_cells.proofs.GridLaws.{of_four}
use Rattle.zt_cells.proofs.cells.handle_tables.Entries.copy.Goals as goal

pub invariant_of-result : goal.invariant_of-result
invariant_of-result c =
    let same = of_four c.self.inside.sizes _ _ _ _ _ _ _ _ c.self.told c.in_ok-copy.ensures c.in_ok-copy-2.ensures c.in_ok-copy-3.ensures c.in_ok-copy-4.ensures in
    subst IsNarrow (sym same) c.self.invariant

pub returns : goal.returns
returns c =
    of_four c.self.inside.sizes _ _ _ _ _ _ _ _ c.self.told c.in_ok-copy.ensures c.in_ok-copy-2.ensures c.in_ok-copy-3.ensures c.in_ok-copy-4.ensures ∙ c.self.view_is
