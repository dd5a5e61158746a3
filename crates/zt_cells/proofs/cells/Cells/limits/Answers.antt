use Rattle.std.proofs.Common.{◌∙◌, length, refl, arith}
use Rattle.zt_cells.proofs.CellsLaws.{suited-seen, few-seen, row-entry, end-objects}
use Rattle.zt_cells.proofs.cells.Cells.limits.Goals as goal

pub returns-clause-suited : goal.returns-clause-suited
returns-clause-suited c =
    suited-seen c.self.inside.tables c.self.inside.places c.args.self.now c.self.view_is c.self.invariant

pub returns-clause-few : goal.returns-clause-few
returns-clause-few c =
    few-seen c.self.inside.tables c.self.inside.places c.args.self.now c.self.view_is c.self.invariant

pub returns-clause-bounded : goal.returns-clause-bounded
returns-clause-bounded c =
    λ x h le. row-entry c.self.inside.tables c.args.self.now c.self.view_is x h ∙ c.limits.ensures x h le

pub returns-clause-low : goal.returns-clause-low
returns-clause-low c =
    λ x le. end-objects c.self.inside.tables c.args.self.now c.self.view_is (length c.self.inside.tables.objects) refl x (omega (arith, le, c.limits-2.ensures))
