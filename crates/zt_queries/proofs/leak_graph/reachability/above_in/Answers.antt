-- What all rows keep is what is above.
use Rattle.std.proofs.Common.{◌∙◌}
use Rattle.std.specs.List.{list_any}
use Rattle.std.specs.Ordering.{nat_cmp}
use Rattle.std.specs.BTreeSet.{contains}
use Rattle.zt_queries.specs.ProofsOnly.LeakGraph.{keeper_at, is_over}
use Rattle.zt_queries.proofs.ReachabilityLaws.{over_none, all_above}
use Rattle.zt_queries.proofs.leak_graph.reachability.above_in.Goals as goal

pub returns : goal.returns
returns c =
    λ S known drawn same y.
    over_none (contains nat_cmp c.loop-key.set y) (λ e. is_over c.args.graph.now (keeper_at (contains nat_cmp c.args.reached.now) e) y) c.loop-key.key-iterator
    (list_any (λ e. is_over c.args.graph.now (keeper_at (contains nat_cmp c.args.reached.now) e) y) c.args.graph.now.entries) c.in-None.ensures.steps.0 (c.loop-key.invariant y)
    ∙ all_above c.args.graph.now c.into_iter-key-iterator.ensures.into_iter_gives.5 S drawn known (contains nat_cmp c.args.reached.now) same y
