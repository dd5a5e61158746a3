-- The name is looked at, then looked for; then there is one branch more.
use Rattle.std.proofs.Common.{◌≤◌, sym, ◌∙◌, ap, subst}
use Rattle.std.specs.Prelude.{is_some}
use Rattle.std.proofs.lemmas.Result.{err_from_is_err_and}
use Rattle.zt_history.specs.Tree.{branch_named, last_moment}
use Rattle.zt_book.specs.Session.{is_name}
use Rattle.zt_history.specs.HistoryRefusals.{branch_on, IsHistoryRefusal}
use Rattle.zt_book.specs.ProofsOnly.SessionState.{SessionStateView}
use Rattle.zt_book.proofs.SessionStateLaws.{branch-unnamed, branch-taken, branch-memory, branch-refused, branch-seen}
use Rattle.zt_book.proofs.session_state.SessionState.branch.Goals as goal

pub returns-then-not-is_name-clause-refused : goal.returns-then-not-is_name-clause-refused
returns-then-not-is_name-clause-refused c =
    branch-unnamed c.args.self.now.session c.args.client c.args.name.now (sym (c.if-not-is_name.ensures ∙ ap is_name c.as_slice.ensures))

pub returns-then-is_some-clause-refused : goal.returns-then-is_some-clause-refused
returns-then-is_some-clause-refused c =
    branch-taken c.args.self.now.session c.args.client c.args.name.now (sym (c.if-not-is_name.ensures ∙ ap is_name c.as_slice.ensures))
    (subst (λ m. m ≤ last_moment c.args.self.now.session.tree) c.position-position.ensures.position c.position-position.ensures.within)
    (sym (c.if-is_some.ensures ∙ (λ i. is_some (c.find.ensures.found i)) ∙ (λ i. is_some (branch_named (c.self.view_is i).session.tree.branches (c.as_slice-2.ensures i)))))

pub returns-in_err-named-clause-refused : goal.returns-in_err-named-clause-refused
returns-in_err-named-clause-refused c =
    let p = err_from_is_err_and c.from_residual.result c.from_residual.ensures.1 in
    rw (p.1, p.2) (
    branch-memory c.args.self.now.session c.args.client c.args.name.now (sym (c.if-not-is_name.ensures ∙ ap is_name c.as_slice.ensures))
    (subst (λ m. m ≤ last_moment c.args.self.now.session.tree) c.position-position.ensures.position c.position-position.ensures.within)
    (sym (c.if-is_some.ensures ∙ (λ i. is_some (c.find.ensures.found i)) ∙ (λ i. is_some (branch_named (c.self.view_is i).session.tree.branches (c.as_slice-2.ensures i)))))
    )

pub returns-clause-ok : goal.returns-clause-ok
returns-clause-ok c =
    branch-seen c.args.self.now.session c.turn.new.self.session c.args.client (record { tree = c.branch-self.new.self.tree; clients = c.self.inside.clients.items })
    c.args.name.now c.in_ok-named.named c.position-position.result c.in_ok-branch.branch (sym (c.if-not-is_name.ensures ∙ ap is_name c.as_slice.ensures))
    ((λ i. branch_on (sym c.self.view_is i).session.tree (sym c.as_slice-3.ensures i) c.position-position.result) ∙ c.in_ok-branch.ensures.ok)
    c.position-position.ensures.position c.in_ok-named.ensures (ap (λ (d : SessionStateView). d.session.clients) c.self.view_is) c.turn.ensures.session

pub returns-in_err-branch-clause-refused : goal.returns-in_err-branch-clause-refused
returns-in_err-branch-clause-refused c =
    let p = err_from_is_err_and c.from_residual-in_err-branch.result c.from_residual-in_err-branch.ensures.1 in
    rw (p.1, p.2) (
    branch-refused c.args.self.now.session c.args.client c.args.name.now c.in_err-branch.field-0.0 (sym (c.if-not-is_name.ensures ∙ ap is_name c.as_slice.ensures))
    (subst (λ r. IsHistoryRefusal r c.in_err-branch.field-0.0)
    (λ i. branch_on (c.self.view_is i).session.tree (c.as_slice-3.ensures i) (c.position-position.ensures.position i))
    c.in_err-branch.ensures.refused)
    )
