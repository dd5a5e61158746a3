-- An entry names what is above the object, or the object.
use Rattle.zt_queries.proofs.FirstLeakLaws.{reached-unleaked}
use Rattle.zt_queries.proofs.leak_graph.record_reach.tells_reached.Goals as goal

pub returns-then-is_entered_in : goal.returns-then-is_entered_in
returns-then-is_entered_in c = λ t S behind. reached-unleaked S c.args.koid (c.loop.invariant.above S behind (c.is_entered_in.ensures c.if-is_entered_in.true S behind))

pub loop-preserved : goal.loop-preserved
loop-preserved c = record { above = λ S behind known. c.loop.invariant.above S behind (c.end_above-above.ensures S behind known) }
