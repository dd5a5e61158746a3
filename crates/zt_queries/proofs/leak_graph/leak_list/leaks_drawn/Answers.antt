-- What is left of all keys is what is leaked.
use Rattle.std.proofs.Common.{◌∙◌, ap}
use Rattle.std.specs.List.{filter_map}
use Rattle.std.specs.Ordering.{nat_cmp}
use Rattle.std.specs.BTreeSet.{contains}
use Rattle.zt_queries.specs.ProofsOnly.LeakGraph.{left_at}
use Rattle.zt_queries.proofs.ListLeaks.{left_leaks}
use Rattle.zt_queries.proofs.leak_graph.leak_list.leaks_drawn.Goals as goal

pub returns : goal.returns
returns c = λ S drawn all.
    let found = c.in_ok-found.ensures S drawn in
    let left = left_at c.args.graph.now (contains nat_cmp c.in_ok-found.found.reached) (contains nat_cmp c.in_ok-found.found.above) in
    c.new.ensures ∙ c.in_ok-list.ensures ∙ ap (filter_map left) all
    ∙ left_leaks c.args.graph.now S drawn (contains nat_cmp c.in_ok-found.found.reached) (contains nat_cmp c.in_ok-found.found.above) found.of_reached found.of_above
