-- The graph is that of the place so far.
use Rattle.std.proofs.Common.{◌≤◌, ◌-◌}
use Rattle.zt_queries.specs.ProofsOnly.LeakGraph.{IsGraph}
use Rattle.zt_queries.specs.ProofsOnly.FirstLeak.{state_after}
use Rattle.zt_queries.proofs.leak_graph.moved_graph.go_forth.Given as goal

abbrev pub invariant-loop-i : goal.invariant-loop-i
invariant-loop-i l = record {
  drawn : IsGraph l.fn.graph (state_after l.history.tree.made l.ways.way.items l.from) → IsGraph l.graph (state_after l.history.tree.made l.ways.way.items l.i);
  low : l.from ≤ l.i;
  high : l.i ≤ l.to;
}

abbrev pub decreases-loop-i : goal.decreases-loop-i
decreases-loop-i l = l.to - l.i
