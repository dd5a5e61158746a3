-- What is marked, with what is above from here on, is what was marked with all that is above.
use Rattle.std.proofs.Common.{◌≡◌, ℕ, ◌-◌, ◌||◌}
use Rattle.std.specs.Ordering.{nat_cmp}
use Rattle.std.specs.BTreeSet.{contains}
use Rattle.zt_rows.specs.End.{upward}
use Rattle.zt_rows.specs.Tests.{among}
use Rattle.zt_queries.specs.ProofsOnly.LeakGraph.{climb, climbed, link_of, node}
use Rattle.zt_queries.proofs.leak_graph.reachability.climb_from.Given as goal

abbrev pub invariant-loop : goal.invariant-loop
invariant-loop l = (y : ℕ) → (contains nat_cmp l.set y || among (upward l.at (λ z. climb (l.fn.koid - l.counter) (λ x. link_of (node l.graph x)) z)) y)
    ≡ (contains nat_cmp l.fn.set y || among (climbed l.graph l.fn.koid) y)
