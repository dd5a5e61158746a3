-- One step further up, or none.
use Rattle.std.proofs.Common.{arith}
use Rattle.zt_queries.proofs.leak_graph.record_reach.end_above.Goals as goal

pub loop-place-preserved : goal.loop-place-preserved
loop-place-preserved c = record {
  above = λ S behind known. c.loop-place.invariant.above S behind (c.end_under-end.ensures S behind known);
  within = omega (arith, c.loop-place.invariant.within);
}
