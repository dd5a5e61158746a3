-- The place is not behind the first.
use Rattle.std.proofs.Common.{◌≤◌}
use Rattle.zt_queries.proofs.leak_graph.unleaked_signs.unleaked_before.Given as goal

abbrev pub invariant-loop-i : goal.invariant-loop-i
invariant-loop-i l = l.i ≤ l.place

abbrev pub decreases-loop-i : goal.decreases-loop-i
decreases-loop-i l = l.i
