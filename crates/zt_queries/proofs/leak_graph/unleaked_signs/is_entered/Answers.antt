-- What an entry names is not leaked.
use Rattle.std.proofs.Common.{sym, ◌∙◌, ap}
use Rattle.zt_queries.specs.ProofsOnly.FirstLeak.{names_object}
use Rattle.zt_queries.proofs.FirstLeakLaws.{named-unleaked}
use Rattle.zt_queries.proofs.leak_graph.unleaked_signs.is_entered.Goals as goal

pub returns-then-names : goal.returns-then-names
returns-then-names c = λ t.
    named-unleaked c.args.store.now.state c.in-Some.key c.args.koid
    (ap (λ r. names_object c.in-Some.key r c.args.koid) (sym c.row.ensures) ∙ sym c.names.ensures ∙ c.if-names.true)
