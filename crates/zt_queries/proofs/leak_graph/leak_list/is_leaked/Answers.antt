-- What is left is what is leaked.
use Rattle.std.proofs.Common.{◌∙◌, ap}
use Rattle.std.specs.Ordering.{nat_cmp}
use Rattle.std.specs.BTreeSet.{contains}
use Rattle.zt_queries.specs.ProofsOnly.LeakGraph.{is_left}
use Rattle.zt_queries.proofs.ListLeaks.{left_leaked}
use Rattle.zt_queries.proofs.leak_graph.leak_list.is_leaked.Goals as goal

pub returns-in-Some : goal.returns-in-Some
returns-in-Some c =
    λ S drawn found.
    c.is_left.ensures
    ∙ ap (is_left (contains nat_cmp c.args.found.now.reached) (contains nat_cmp c.args.found.now.above) c.args.koid) c.in-Some.ensures
    ∙ left_leaked c.args.graph.now S drawn (contains nat_cmp c.args.found.now.reached) (contains nat_cmp c.args.found.now.above) found.of_reached found.of_above c.args.koid

pub returns-in-None : goal.returns-in-None
returns-in-None c =
    λ S drawn found.
    ap (is_left (contains nat_cmp c.args.found.now.reached) (contains nat_cmp c.args.found.now.above) c.args.koid) c.in-None.ensures
    ∙ left_leaked c.args.graph.now S drawn (contains nat_cmp c.args.found.now.reached) (contains nat_cmp c.args.found.now.above) found.of_reached found.of_above c.args.koid
