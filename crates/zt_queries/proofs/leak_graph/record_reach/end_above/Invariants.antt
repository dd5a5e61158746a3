-- The object was reached where this endpoint was.
use Rattle.std.proofs.Common.{◌≤◌, length}
use Rattle.zt_queries.specs.ProofsOnly.FirstLeak.{ShowsReachedWith}
use Rattle.zt_queries.proofs.leak_graph.record_reach.end_above.Given as goal

abbrev pub invariant-loop-place : goal.invariant-loop-place
invariant-loop-place l = record {
  above : ShowsReachedWith l.change l.fn.koid l.end;
  within : l.place ≤ length l.keys;
}

abbrev pub decreases-loop-place : goal.decreases-loop-place
decreases-loop-place l = l.place
