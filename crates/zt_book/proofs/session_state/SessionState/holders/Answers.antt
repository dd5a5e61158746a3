-- What keeps the object in the state to which the history went.
use Rattle.std.proofs.Common.{◌∙◌, ap, subst, sym, refl}
use Rattle.std.proofs.lemmas.Result.{err_from_is_err_and}
use Rattle.zt_history.specs.HistoryRefusals.{IsHistoryRefusal}
use Rattle.zt_history.specs.Tree.{state_at}
use Rattle.zt_queries.specs.FrozenCopy.{holders_on}
use Rattle.zt_book.specs.Session.{Session}
use Rattle.zt_book.specs.ProofsOnly.SessionState.{SessionStateView}
use Rattle.zt_book.proofs.SessionStateLaws.{holders-memory, holders-refused, holders-seen}
use Rattle.zt_book.proofs.session_state.SessionState.holders.Goals as goal

pub returns-in_err-go-clause-refused : goal.returns-in_err-go-clause-refused
returns-in_err-go-clause-refused c =
    let p = err_from_is_err_and c.from_residual.result c.from_residual.ensures.1 in
    rw (p.1, p.2, c.in_err-go.ensures.refused) (holders-memory c.args.self.now.session c.args.client c.args.koid _ refl)

pub returns-clause-ok : goal.returns-clause-ok
returns-clause-ok c =
    let tree = ap (λ (d : SessionStateView). d.session.tree) c.self.view_is ∙ ap (λ (M : Session). M.tree) c.in_ok-go.ensures.session in
    let there = ap (λ (d : SessionStateView). d.at) c.self.view_is ∙ c.in_ok-go.ensures.there in
    holders-seen c.args.self.now.session c.go.new.self.session c.args.client _ c.args.koid c.in_ok-held.held c.in_ok-go.ensures.ok
    ((λ i. holders_on (state_at (sym tree i).made (sym there i)) c.args.koid) ∙ c.in_ok-held.ensures.ok) c.in_ok-go.ensures.session

pub returns-in_err-held-clause-refused : goal.returns-in_err-held-clause-refused
returns-in_err-held-clause-refused c =
    let tree = ap (λ (d : SessionStateView). d.session.tree) c.self.view_is ∙ ap (λ (M : Session). M.tree) c.in_ok-go.ensures.session in
    let there = ap (λ (d : SessionStateView). d.at) c.self.view_is ∙ c.in_ok-go.ensures.there ∙ c.in_ok-go.ensures.ok in
    let p = err_from_is_err_and c.from_residual-in_err-held.result c.from_residual-in_err-held.ensures.1 in
    rw (p.1, p.2) (
    holders-refused c.args.self.now.session c.args.client c.args.koid c.in_err-held.field-0.0
    (subst (λ r. IsHistoryRefusal r c.in_err-held.field-0.0) (λ i. holders_on (state_at (tree i).made (there i)) c.args.koid) c.in_err-held.ensures.refused)
    )
