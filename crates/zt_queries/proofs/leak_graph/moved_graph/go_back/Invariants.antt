-- The graph is that of the place up to which the path is still to be gone back.
use Rattle.std.proofs.Common.{◌≤◌}
use Rattle.zt_queries.specs.ProofsOnly.LeakGraph.{IsGraph}
use Rattle.zt_queries.specs.ProofsOnly.FirstLeak.{state_after}
use Rattle.zt_queries.proofs.leak_graph.moved_graph.go_back.Given as goal

abbrev pub invariant-loop-i : goal.invariant-loop-i
invariant-loop-i l = record {
  drawn : IsGraph l.fn.graph (state_after l.history.tree.made l.ways.here.items l.from) → IsGraph l.graph (state_after l.history.tree.made l.ways.here.items l.i);
  high : l.i ≤ l.from;
  low : l.to ≤ l.i;
}

abbrev pub decreases-loop-i : goal.decreases-loop-i
decreases-loop-i l = l.i
