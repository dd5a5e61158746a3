-- What an entry names is not leaked.
use Rattle.std.proofs.Common.{sym, ◌∙◌}
use Rattle.zt_queries.proofs.SinceLaws.{rooted_leaked}
use Rattle.zt_queries.proofs.leak_graph.first_leak.searched.Goals as goal

pub returns-then-contains : goal.returns-then-contains
returns-then-contains c = λ S drawn.
    rooted_leaked c.args.graph.now c.in_ok-named.ensures.ordered S drawn c.deref.result.now c.args.koid (c.deref.ensures.value ∙ c.in_ok-named.ensures.found)
    (sym c.contains.ensures.value ∙ c.if-contains.true)
