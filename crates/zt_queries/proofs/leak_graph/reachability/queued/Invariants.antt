-- What is queued, with what the other rows name, is what all name.
use Rattle.std.proofs.Common.{◌≡◌, ℕ, ◌++◌}
use Rattle.std.specs.List.{flat_map}
use Rattle.zt_queries.specs.ProofsOnly.LeakGraph.{waiting, names_at, names}
use Rattle.zt_queries.proofs.leak_graph.reachability.queued.Given as goal

abbrev pub invariant-loop-key : goal.invariant-loop-key
invariant-loop-key l = (e : ℕ) → waiting l.queues e ++ flat_map (names_at e) l.key-iterator ≡ names l.graph e
