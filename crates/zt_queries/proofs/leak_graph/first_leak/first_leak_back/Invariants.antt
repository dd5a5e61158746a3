-- Not leaked at the lower place, leaked at the upper one, of which the graph is.
use Rattle.std.proofs.Common.{◌≡◌, ◌≤◌, ◌<◌, ◌-◌, true, false}
use Rattle.zt_queries.specs.ProofsOnly.LeakGraph.{IsGraph}
use Rattle.zt_queries.specs.Leaks.{is_leaked}
use Rattle.zt_queries.specs.ProofsOnly.FirstLeak.{state_after}
use Rattle.zt_queries.proofs.leak_graph.first_leak.first_leak_back.Given as goal

abbrev pub invariant-loop-above : goal.invariant-loop-above
invariant-loop-above l = record {
  drawn : IsGraph l.graph (state_after l.history.tree.made l.ways.way.items l.above);
  before : is_leaked (state_after l.history.tree.made l.ways.way.items l.below) l.fn.koid ≡ false;
  after : is_leaked (state_after l.history.tree.made l.ways.way.items l.above) l.fn.koid ≡ true;
  order : l.below < l.above;
  high : l.above ≤ l.ways.shared;
}

abbrev pub decreases-loop-above : goal.decreases-loop-above
decreases-loop-above l = l.above - l.below
