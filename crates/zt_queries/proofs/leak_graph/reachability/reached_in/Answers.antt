-- The search goes on name by name, until nothing is left to be looked into.
use Rattle.std.proofs.Common.{sym, ◌∙◌}
use Rattle.std.specs.Ordering.{nat_cmp}
use Rattle.std.specs.BTreeSet.{contains}
use Rattle.zt_queries.specs.ProofsOnly.LeakGraph.{roots, names, waiting}
use Rattle.zt_queries.proofs.ReachabilityLaws.{search_goes_on, search_ended, found_reached}
use Rattle.zt_queries.proofs.leak_graph.reachability.reached_in.Goals as goal

pub loop-koid-preserved : goal.loop-koid-preserved
loop-koid-preserved c =
    search_goes_on (roots c.args.graph.now) (names c.args.graph.now) c.loop-koid.found.items (waiting c.loop-koid.queues) (contains nat_cmp c.loop-koid.set) c.loop-koid.invariant
    c.pop.new.self.items c.in-Some.koid c.in-Some.ensures.items (contains nat_cmp c.mark.new.set) c.in_ok-mark.ensures
    c.look_into.new.found.items c.in_ok-look_into.ensures.found (waiting c.look_into.new.queues) c.in_ok-look_into.ensures.queues

pub returns : goal.returns
returns c =
    λ S drawn x. found_reached c.args.graph.now c.in_ok-found.ensures.ordered S drawn (waiting c.loop-koid.queues) (contains nat_cmp c.loop-koid.set)
    (search_ended (roots c.args.graph.now) (names c.args.graph.now) c.loop-koid.found.items (waiting c.loop-koid.queues) (contains nat_cmp c.loop-koid.set) (sym c.loop-koid.found.ok.0 ∙ c.in_default.ensures.cases.0) c.loop-koid.invariant) x
