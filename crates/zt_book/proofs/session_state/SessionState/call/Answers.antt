-- What the history did with the call is what the session does.
use Rattle.std.proofs.Common.{Ok, sym, ◌∙◌, ap, subst}
use Rattle.std.specs.Prelude.{is_some, Result}
use Rattle.std.proofs.lemmas.Result.{err_from_is_err_and}
use Rattle.zt_rows.specs.declared.calls.Answer.{Answer}
use Rattle.zt_rows.specs.declared.refusals.Refusal.{Refusal}
use Rattle.zt_history.specs.HistoryRefusals.{call_on, IsHistoryRefusal}
use Rattle.zt_history.specs.Tree.{Tree}
use Rattle.zt_book.specs.ProofsOnly.SessionState.{SessionStateView}
use Rattle.zt_book.proofs.SessionStateLaws.{call-detached, call-seen, call-refused, all_clients-called}
use Rattle.zt_book.proofs.session_state.SessionState.call.Goals as goal

pub returns-in_default-clause-refused : goal.returns-in_default-clause-refused
returns-in_default-clause-refused c =
    call-detached c.args.self.now.session c.args.client c.args.process _ c.args.call.now (sym c.in_default.ensures.cursor)

pub invariant_of-self-2 : goal.invariant_of-self-2
invariant_of-self-2 c =
    all_clients-called c.self.inside.history c.call.new.self c.self.inside.clients.items c.self.inside.grown c.in-Follows.branch c.args.process c.args.call.now _
    c.self.invariant c.in_ok-made.ensures.ok (ap is_some c.in_ok-made.ensures.before)

pub returns-clause-ok : goal.returns-clause-ok
returns-clause-ok c =
    call-seen c.args.self.now.session (record { tree = c.call.new.self.tree; clients = c.self.inside.clients.items }) c.args.client c.args.process c.in-Follows.branch c.args.call.now _
    (sym c.in-Follows.ensures.cursor)
    ((λ i. call_on (sym c.self.view_is i).session.tree c.in-Follows.branch c.args.process c.args.call.now)
    ∙ c.in_ok-made.ensures.ok
    ∙ ap (λ a. let z : Result (Answer × Tree) Refusal = Ok (a, c.call.new.self.tree) in z) (sym c.new_moment.ensures))
    (ap (λ (d : SessionStateView). d.session.clients) c.self.view_is)

pub returns-in_err-made-clause-refused : goal.returns-in_err-made-clause-refused
returns-in_err-made-clause-refused c =
    let p = err_from_is_err_and c.from_residual.result c.from_residual.ensures.1 in
    rw (p.1, p.2) (
    call-refused c.args.self.now.session c.args.client c.args.process c.in-Follows.branch c.args.call.now c.in_err-made.field-0.0 (sym c.in-Follows.ensures.cursor)
    (subst (λ (d : SessionStateView). IsHistoryRefusal (call_on d.session.tree c.in-Follows.branch c.args.process c.args.call.now) c.in_err-made.field-0.0) c.self.view_is c.in_err-made.ensures.refused)
    )
