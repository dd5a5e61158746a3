use Rattle.std.proofs.Common.{◌*◌, ap, arith}
use Rattle.std.proofs.lemmas.Grind.{common_steps}
use Rattle.zt_cells.proofs.GridLaws.{length_entry_table}
use Rattle.zt_cells.proofs.EndLaws.{places-most, places-within}
use Rattle.zt_cells.proofs.cells.handle_tables.Entries.end_of.Goals as goal

pub loop-by_owner-preserved : goal.loop-by_owner-preserved
loop-by_owner-preserved c =
    let bound = length_entry_table c.args.self.now c.loop-by_owner.by_owner-index c.args.process in
    let within = places-within c.args.self.now c.loop-by_owner.by_owner-index c.args.process (omega arith) in
    ((grind (arith, common_steps), grind (arith, common_steps)), grind (arith, common_steps))

pub returns-clause-places : goal.returns-clause-places
returns-clause-places c =
    ap (λ n. 4 * n) (places-most c.args.self.now c.args.process c.loop-by_owner.most (λ r lt. c.loop-by_owner.invariant.0.0 r (omega arith)) c.loop-by_owner.invariant.0.1)
