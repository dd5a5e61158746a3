-- The moment leads to the end as it leads to the moment that was come to.
use Rattle.std.proofs.Common.{◌≡◌}
use Rattle.zt_queries.specs.LaterMoments.{leads_to}
use Rattle.zt_look.proofs.alive_list.leads_to.Given as goal

abbrev pub invariant-loop-here : goal.invariant-loop-here
invariant-loop-here l = leads_to l.history.tree.made l.moment l.here ≡ leads_to l.history.tree.made l.moment l.fn.at

abbrev pub decreases-loop-here : goal.decreases-loop-here
decreases-loop-here l = l.here
