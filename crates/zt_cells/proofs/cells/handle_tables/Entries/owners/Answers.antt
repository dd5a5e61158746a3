use Rattle.std.proofs.Common.{arith}
use Rattle.std.proofs.lemmas.Grind.{common_steps}
use Rattle.zt_cells.proofs.EndLaws.{owners-most, owners-within}
use Rattle.zt_cells.proofs.cells.handle_tables.Entries.owners.Goals as goal

pub loop-by_owner-preserved : goal.loop-by_owner-preserved
loop-by_owner-preserved c =
    let within = owners-within c.args.self.now c.loop-by_owner.by_owner-index (omega arith) in
    (grind (arith, common_steps), grind (arith, common_steps))

pub returns-clause-places : goal.returns-clause-places
returns-clause-places c =
    owners-most c.args.self.now c.loop-by_owner.most (λ r lt. c.loop-by_owner.invariant.0 r (omega arith)) c.loop-by_owner.invariant.1
