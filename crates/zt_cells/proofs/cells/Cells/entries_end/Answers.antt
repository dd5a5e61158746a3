use Rattle.std.proofs.Common.{◌∙◌}
use Rattle.zt_cells.proofs.CellsLaws.{row-entry, entries-few, places-entries}
use Rattle.zt_cells.proofs.cells.Cells.entries_end.Goals as goal

pub end_of-requires : goal.end_of-requires
end_of-requires c = entries-few c.self.inside.tables c.self.inside.places c.self.invariant

pub returns-clause-end : goal.returns-clause-end
returns-clause-end c =
    λ h le. row-entry c.self.inside.tables c.args.self.now c.self.view_is c.args.process h ∙ c.end_of.ensures.end h le

pub returns-clause-places : goal.returns-clause-places
returns-clause-places c =
    places-entries c.self.inside.tables c.args.self.now c.self.view_is c.args.process c.end_of.result c.end_of.ensures.places
