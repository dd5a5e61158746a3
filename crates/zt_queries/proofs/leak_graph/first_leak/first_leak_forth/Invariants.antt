-- Not leaked at the lower place, of which the graph is, and leaked at the upper one.
use Rattle.std.proofs.Common.{◌≡◌, ◌≤◌, ◌<◌, ◌-◌, true, false, length}
use Rattle.zt_queries.specs.ProofsOnly.LeakGraph.{IsGraph}
use Rattle.zt_queries.specs.Leaks.{is_leaked}
use Rattle.zt_queries.specs.ProofsOnly.FirstLeak.{state_after}
use Rattle.zt_queries.proofs.leak_graph.first_leak.first_leak_forth.Given as goal

abbrev pub invariant-loop-above : goal.invariant-loop-above
invariant-loop-above l = record {
  drawn : IsGraph l.graph (state_after l.history.tree.made l.ways.way.items l.below);
  before : is_leaked (state_after l.history.tree.made l.ways.way.items l.below) l.fn.koid ≡ false;
  after : is_leaked (state_after l.history.tree.made l.ways.way.items l.above) l.fn.koid ≡ true;
  order : l.below < l.above;
  low : l.ways.shared ≤ l.below;
  high : l.above ≤ length l.ways.way.items;
}

abbrev pub decreases-loop-above : goal.decreases-loop-above
decreases-loop-above l = l.above - l.below
