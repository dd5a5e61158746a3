-- The rows of the state to which the history went.
use Rattle.std.proofs.Common.{◌∙◌, ap}
use Rattle.std.proofs.lemmas.Result.{err_from_is_err_and}
use Rattle.zt_history.specs.Tree.{state_at}
use Rattle.zt_book.specs.Session.{Session}
use Rattle.zt_book.specs.ProofsOnly.SessionState.{SessionStateView}
use Rattle.zt_book.proofs.SessionStateLaws.{show-memory, show-seen}
use Rattle.zt_book.proofs.session_state.SessionState.show.Goals as goal

pub returns-in_err-position-clause-refused : goal.returns-in_err-position-clause-refused
returns-in_err-position-clause-refused c =
    let p = err_from_is_err_and c.from_residual.result c.from_residual.ensures.1 in
    rw (p.1, p.2, c.in_err-position.ensures.refused) (show-memory c.args.self.now.session c.args.client)

pub returns-in_err-rows-clause-refused : goal.returns-in_err-rows-clause-refused
returns-in_err-rows-clause-refused c =
    let p = err_from_is_err_and c.from_residual-in_err-rows.result c.from_residual-in_err-rows.ensures.1 in
    rw (p.1, p.2, c.in_err-rows.ensures.refused) (show-memory c.args.self.now.session c.args.client)

pub returns-clause-ok : goal.returns-clause-ok
returns-clause-ok c =
    let tree = ap (λ (d : SessionStateView). d.session.tree) c.self.view_is ∙ ap (λ (M : Session). M.tree) c.in_ok-position.ensures.session in
    let there = ap (λ (d : SessionStateView). d.at) c.self.view_is ∙ c.in_ok-position.ensures.there in
    show-seen c.args.self.now.session c.go.new.self.session c.args.client c.in_ok-position.position c.in_ok-rows.rows c.in_ok-position.ensures.ok
    (c.in_ok-rows.ensures.ok ∙ (λ i. (state_at (tree i).made (there i)).rows)) c.in_ok-position.ensures.session
