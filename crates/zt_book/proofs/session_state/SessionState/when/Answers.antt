-- The history goes to the client's position, which changes nothing of the session.
use Rattle.std.proofs.Common.{◌≡◌, subst}
use Rattle.std.proofs.lemmas.Result.{err_from_is_err_and}
use Rattle.std.specs.Prelude.{IfOk, IfErr, Ok}
use Rattle.zt_book.specs.Session.{when_to, IsCommandRefusal}
use Rattle.zt_book.proofs.SessionStateLaws.{memory-alone, when_forgotten}
use Rattle.zt_book.proofs.session_state.SessionState.when.Goals as goal

pub returns-in_err-go-clause-refused : goal.returns-in_err-go-clause-refused
returns-in_err-go-clause-refused c =
    let p = err_from_is_err_and c.from_residual.result c.from_residual.ensures.1 in
    rw (p.1, p.2, c.in_err-go.ensures.refused) (when_forgotten c.args.self.now.session c.args.client c.args.what c.args.koid)

pub returns-clause-ok : goal.returns-clause-ok
returns-clause-ok c =
    subst (λ M. IfOk c.told_when.result (λ said. when_to M c.args.client c.args.what c.args.koid ≡ Ok (said, c.go.new.self.session))) c.in_ok-go.ensures.session c.told_when.ensures.ok

pub returns-clause-refused : goal.returns-clause-refused
returns-clause-refused c =
    subst (λ M. IfErr c.told_when.result (IsCommandRefusal (when_to M c.args.client c.args.what c.args.koid))) c.in_ok-go.ensures.session c.told_when.ensures.refused
