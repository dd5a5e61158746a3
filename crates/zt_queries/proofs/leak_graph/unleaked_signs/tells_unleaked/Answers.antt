-- What is not there is not leaked, nor what is reached.
use Rattle.std.proofs.Common.{sym, ◌∙◌}
use Rattle.zt_queries.proofs.FirstLeakLaws.{none-tells, reached-unleaked}
use Rattle.zt_queries.proofs.leak_graph.unleaked_signs.tells_unleaked.Goals as goal

pub returns-then-has_none : goal.returns-then-has_none
returns-then-has_none c = λ t S behind. none-tells c.args.change.now S c.args.koid (sym c.has_none.ensures ∙ c.if-has_none.true) behind

pub returns-else-has_none : goal.returns-else-has_none
returns-else-has_none c = λ t S behind. reached-unleaked S c.args.koid (c.is_entered_in.ensures t S behind)
