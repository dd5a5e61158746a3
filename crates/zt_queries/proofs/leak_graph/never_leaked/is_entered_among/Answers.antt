-- What an entry names is not leaked.
use Rattle.std.proofs.Common.{sym, ◌∙◌, ap}
use Rattle.zt_queries.specs.ProofsOnly.FirstLeak.{names_object}
use Rattle.zt_queries.proofs.FirstLeakLaws.{named-unleaked}
use Rattle.zt_queries.proofs.leak_graph.never_leaked.is_entered_among.Goals as goal

pub returns-then-names : goal.returns-then-names
returns-then-names c = λ t.
    named-unleaked c.args.store.now.state c.key-item.result c.args.koid
    (ap (λ r. names_object c.key-item.result r c.args.koid) (sym c.row.ensures) ∙ sym c.names.ensures ∙ c.if-names.true)
