-- It ended, and was not leaked before; or it is there at the position, and not leaked.
use Rattle.std.proofs.Common.{◌≡◌, sym, ap, ◌∙◌}
use Rattle.std.proofs.lemmas.Bool.{eqb-true}
use Rattle.zt_rows.specs.Tests.{exists}
use Rattle.zt_history.specs.Tree.{state_at}
use Rattle.zt_history.specs.declared.row_happenings.RowHappening.TheVariants as turn
use Rattle.zt_queries.specs.Leaks.{is_leaked}
use Rattle.zt_queries.proofs.NeverLaws.{stands-never, told-never}
use Rattle.zt_queries.proofs.WhenLaws.{shown-is}
use Rattle.zt_queries.proofs.leak_graph.never_leaked.is_never_leaked.Goals as goal

pub returns-in-Some-clause-never : goal.returns-in-Some-clause-never
returns-in-Some-clause-never c = λ t.
    told-never c.args.history.now.tree.made c.args.history.now.position c.args.at c.args.koid c.in-Some.moment c.last_shown.result c.position-position.ensures.tree.moments
    c.requires.there c.requires.known c.in-Some.is (c.last_shown.ensures ∙ shown-is turn.Ended c.args.koid c.args.history.now.tree.made c.args.at) (c.went_unleaked.ensures t)

pub returns-then-eq-clause-never : goal.returns-then-eq-clause-never
returns-then-eq-clause-never c = λ t.
    let here : c.args.at ≡ c.args.history.now.position = eqb-true c.args.at c.position-position.result (sym c.eq.ensures ∙ c.if-eq.true) ∙ c.position-position.ensures.position in
    let state : state_at c.args.history.now.tree.made c.args.at ≡ state_at c.args.history.now.tree.made c.args.history.now.position = ap (state_at c.args.history.now.tree.made) here in
    stands-never c.args.history.now.tree.made c.position-position.ensures.tree.moments c.args.at c.args.koid c.requires.there
    (ap (λ S. exists S c.args.koid) state ∙ c.stands_unleaked.ensures.there t) (ap (λ S. is_leaked S c.args.koid) state ∙ c.stands_unleaked.ensures.unleaked t)
