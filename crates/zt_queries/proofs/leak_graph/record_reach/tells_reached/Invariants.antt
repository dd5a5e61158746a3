-- The object was reached where what is looked at was.
use Rattle.zt_queries.specs.ProofsOnly.FirstLeak.{ShowsReachedWith}
use Rattle.zt_queries.proofs.leak_graph.record_reach.tells_reached.Given as goal

abbrev pub invariant-loop : goal.invariant-loop
invariant-loop l = record { above : ShowsReachedWith l.change l.fn.koid l.named }
