-- What is not there, or keeps itself, is not leaked.
use Rattle.std.proofs.Common.{sym, ◌∙◌}
use Rattle.zt_queries.proofs.SinceLaws.{none_leaked, kept_leaked}
use Rattle.zt_queries.proofs.leak_graph.first_leak.leaked_in.Goals as goal

pub returns-then-keeps_itself : goal.returns-then-keeps_itself
returns-then-keeps_itself c = λ S drawn. kept_leaked c.args.graph.now S drawn c.args.koid c.in-Some.node c.in-Some.ensures (sym c.keeps_itself.ensures ∙ c.if-keeps_itself.true)

pub returns-in-None : goal.returns-in-None
returns-in-None c = λ S drawn. none_leaked c.args.graph.now S drawn c.args.koid c.in-None.ensures
