-- Its own row shows it.
use Rattle.std.proofs.Common.{sym, ap, ◌∙◌}
use Rattle.zt_queries.specs.Leaks.{is_leaked}
use Rattle.zt_queries.specs.ProofsOnly.FirstLeak.{is_sure}
use Rattle.zt_queries.proofs.FirstLeakLaws.{sure-unleaked}
use Rattle.zt_queries.proofs.leak_graph.never_leaked.stands_unleaked.Goals as goal

pub returns-then-is_sure-clause-unleaked : goal.returns-then-is_sure-clause-unleaked
returns-then-is_sure-clause-unleaked c = λ t.
    ap (λ S. is_leaked S c.args.koid) (sym c.store.ensures.state)
    ∙ sure-unleaked c.store.result.now.state c.args.koid (ap (λ r. is_sure r c.args.koid) (sym c.row-row.ensures) ∙ sym c.is_sure.ensures ∙ c.if-is_sure.true)
