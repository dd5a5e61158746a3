-- What is marked, with what the other rows keep, is what all keep.
use Rattle.std.proofs.Common.{◌≡◌, ℕ, ◌||◌}
use Rattle.std.specs.List.{list_any}
use Rattle.std.specs.Ordering.{nat_cmp}
use Rattle.std.specs.BTreeSet.{contains}
use Rattle.zt_queries.specs.ProofsOnly.LeakGraph.{keeper_at, is_over}
use Rattle.zt_queries.proofs.leak_graph.reachability.above_in.Given as goal

abbrev pub invariant-loop-key : goal.invariant-loop-key
invariant-loop-key l = (y : ℕ) → (contains nat_cmp l.set y || list_any (λ e. is_over l.graph (keeper_at (contains nat_cmp l.reached) e) y) l.key-iterator)
    ≡ list_any (λ e. is_over l.graph (keeper_at (contains nat_cmp l.reached) e) y) l.graph.entries
