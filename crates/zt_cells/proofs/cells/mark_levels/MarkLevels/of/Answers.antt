use Rattle.std.proofs.Common.{arith}
use Rattle.zt_cells.proofs.MarkLaws.{above-of}
use Rattle.zt_cells.proofs.cells.mark_levels.MarkLevels.of.Goals as goal

pub invariant_of-result : goal.invariant_of-result
invariant_of-result c =
    (above-of _ _ c.min-any.result c.args.word c.in_ok-of-2.ensures c.in_ok-of.ensures (omega arith), above-of _ _ c.min-any.result c.min-any.result c.in_ok-of-3.ensures c.in_ok-of-2.ensures (omega arith))
