-- What is found, with what the other rows name, is what all name.
use Rattle.std.proofs.Common.{◌≡◌, ◌++◌}
use Rattle.std.specs.List.{filter_map}
use Rattle.zt_queries.specs.ProofsOnly.LeakGraph.{root_at, roots}
use Rattle.zt_queries.proofs.leak_graph.reachability.entered.Given as goal

abbrev pub invariant-loop-key : goal.invariant-loop-key
invariant-loop-key l = l.found.items ++ filter_map root_at l.key-iterator ≡ roots l.graph
