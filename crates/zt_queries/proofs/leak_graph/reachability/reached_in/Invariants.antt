-- Each endpoint was looked into or waits as at first, and what is found is in every closed set.
use Rattle.std.proofs.Common.{◌+◌, length}
use Rattle.std.specs.Ordering.{nat_cmp}
use Rattle.std.specs.BTreeSet.{contains}
use Rattle.zt_queries.specs.ProofsOnly.LeakGraph.{roots, names, waiting, weight}
use Rattle.zt_queries.proofs.ReachabilityLaws.{IsSearch}
use Rattle.zt_queries.proofs.leak_graph.reachability.reached_in.Given as goal

abbrev pub invariant-loop-koid : goal.invariant-loop-koid
invariant-loop-koid l = IsSearch (roots l.graph) (names l.graph) l.found.items (waiting l.queues) (contains nat_cmp l.set)

abbrev pub decreases-loop-koid : goal.decreases-loop-koid
decreases-loop-koid l = length l.found.items + weight l.queues
