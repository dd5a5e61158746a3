-- What the record has is so in the state.
use Rattle.std.proofs.Common.{sym, ◌∙◌}
use Rattle.zt_queries.proofs.FirstLeakLaws.{named-tells}
use Rattle.zt_queries.proofs.leak_graph.unleaked_signs.is_entered_in.Goals as goal

pub returns-then-names_under : goal.returns-then-names_under
returns-then-names_under c = λ t S behind. named-tells c.args.change.now S c.key-item.result c.args.koid (sym c.names_under.ensures ∙ c.if-names_under.true) behind
