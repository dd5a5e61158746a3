-- The name is looked for, and the client stands at the branch's head.
use Rattle.std.proofs.Common.{sym, ◌∙◌, ap}
use Rattle.std.proofs.lemmas.Result.{err_from_is_err_and}
use Rattle.zt_history.specs.Tree.{branch_named, head_at}
use Rattle.zt_book.specs.ProofsOnly.SessionState.{SessionStateView}
use Rattle.zt_book.proofs.SessionStateLaws.{follow-none, follow-memory, follow-seen}
use Rattle.zt_book.proofs.session_state.SessionState.follow.Goals as goal

pub returns-in_default-clause-refused : goal.returns-in_default-clause-refused
returns-in_default-clause-refused c =
    follow-none c.args.self.now.session c.args.client c.args.name.now
    (sym (c.in_default.ensures.found ∙ (λ i. branch_named (c.self.view_is i).session.tree.branches (c.as_slice.ensures i))))

pub returns-in_err-named-clause-refused : goal.returns-in_err-named-clause-refused
returns-in_err-named-clause-refused c =
    let p = err_from_is_err_and c.from_residual.result c.from_residual.ensures.1 in
    rw (p.1, p.2) (
    follow-memory c.args.self.now.session c.args.client c.args.name.now c.in-Some.branch
    (sym (c.in-Some.ensures.found ∙ (λ i. branch_named (c.self.view_is i).session.tree.branches (c.as_slice.ensures i))))
    )

pub returns-clause-ok : goal.returns-clause-ok
returns-clause-ok c =
    follow-seen c.args.self.now.session c.stand.new.self.session c.args.client c.args.name.now c.in_ok-named.named c.in-Some.branch c.head-head.result
    (sym (c.in-Some.ensures.found ∙ (λ i. branch_named (c.self.view_is i).session.tree.branches (c.as_slice.ensures i))))
    c.in_ok-named.ensures (c.head-head.ensures.head ∙ ap (λ (d : SessionStateView). head_at d.session.tree.branches c.in-Some.branch) c.self.view_is)
    c.stand.ensures.session
