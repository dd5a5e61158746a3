use Rattle.std.proofs.Common.{◌∙◌, arith}
use Rattle.zt_cells.proofs.CellsLaws.{row-entry, end-message_owners, end-packet_owners, places-owners}
use Rattle.zt_cells.proofs.cells.Cells.owners_end.Goals as goal

pub returns-clause-entries : goal.returns-clause-entries
returns-clause-entries c =
    λ x h le. row-entry c.self.inside.tables c.args.self.now c.self.view_is x h ∙ c.owners-3.ensures.end x h (omega arith)

pub returns-clause-messages : goal.returns-clause-messages
returns-clause-messages c =
    λ x n le. end-message_owners c.self.inside.tables c.args.self.now c.self.view_is x n (omega arith)

pub returns-clause-packets : goal.returns-clause-packets
returns-clause-packets c =
    λ x n le. end-packet_owners c.self.inside.tables c.args.self.now c.self.view_is x n (omega arith)

pub returns-clause-places : goal.returns-clause-places
returns-clause-places c =
    places-owners c.self.inside.tables c.args.self.now c.self.view_is c.owners-3.result c.owners.result c.owners-2.result c.owners-3.ensures.places c.owners.ensures c.owners-2.ensures _ (omega arith)
