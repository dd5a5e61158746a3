-- The client has room, and what it asked is answered and counted.
use Rattle.std.proofs.Common.{◌≤◌, ◌<◌, subst}
use Rattle.std.proofs.lemmas.Bool.{lt-ltb}
use Rattle.std.proofs.lemmas.Result.{err_from_is_err_and}
use Rattle.zt_book.specs.declared.client.Client.{Client}
use Rattle.zt_book.specs.Session.{client_of}
use Rattle.zt_book.proofs.SessionStateLaws.{serve-full}
use Rattle.zt_book.proofs.ServedLaws.{served, serve-refused, still-known, still-room, served-more, served-back}
use Rattle.zt_book.proofs.session_state.SessionState.serve.Goals as goal

pub returns-then-client-ge-CLIENT_ROWS-clause-refused : goal.returns-then-client-ge-CLIENT_ROWS-clause-refused
returns-then-client-ge-CLIENT_ROWS-clause-refused c =
    serve-full c.args.self.now.session c.args.client c.args.request.now
    (subst (λ (k : Client). 4096 ≤ k.rows) c.client.ensures.client c.if-client-ge-CLIENT_ROWS.true)

pub count-requires-clause-known : goal.count-requires-clause-known
count-requires-clause-known c =
    still-known c.args.self.now c.answer.new.self c.answer.new.self c.args.client c.args.request.now c.in_ok-said.said c.requires.numbered c.requires.known c.in_ok-said.ensures.ok

pub count-requires-clause-few : goal.count-requires-clause-few
count-requires-clause-few c =
    still-room c.args.self.now c.answer.new.self c.answer.new.self c.args.client c.args.request.now c.in_ok-said.said c.requires.numbered c.requires.known c.in_ok-said.ensures.ok
    (subst (λ (k : Client). k.rows < 4096) c.client.ensures.client c.if-client-ge-CLIENT_ROWS.false)

pub returns-clause-ok : goal.returns-clause-ok
returns-clause-ok c =
    served c.args.self.now.session c.count.new.self.session c.args.client c.args.request.now c.in_ok-said.said c.answer.new.self.session
    (lt-ltb (client_of c.args.self.now.session c.args.client).rows 4096 (subst (λ (k : Client). k.rows < 4096) c.client.ensures.client c.if-client-ge-CLIENT_ROWS.false))
    c.in_ok-said.ensures.ok c.count.ensures.session

pub returns-clause-room : goal.returns-clause-room
returns-clause-room c = subst (λ (k : Client). k.rows < 4096) c.client.ensures.client c.if-client-ge-CLIENT_ROWS.false

pub returns-clause-one_more : goal.returns-clause-one_more
returns-clause-one_more c =
    served-more c.args.self.now c.answer.new.self c.count.new.self c.args.client c.args.request.now c.in_ok-said.said c.requires.numbered c.requires.known c.in_ok-said.ensures.ok
    c.count.ensures.session

pub returns-clause-back : goal.returns-clause-back
returns-clause-back c =
    served-back c.args.self.now c.answer.new.self c.count.new.self c.args.client c.args.request.now c.in_ok-said.said c.requires.numbered c.requires.known c.in_ok-said.ensures.ok
    c.count.ensures.session c.count.ensures.earlier c.in_ok-said.ensures.earlier

pub returns-in_err-said-clause-refused : goal.returns-in_err-said-clause-refused
returns-in_err-said-clause-refused c =
    let p = err_from_is_err_and c.from_residual.result c.from_residual.ensures.1 in
    rw (p.1, p.2) (
    serve-refused c.args.self.now.session c.args.client c.args.request.now c.in_err-said.field-0.0
    (lt-ltb (client_of c.args.self.now.session c.args.client).rows 4096 (subst (λ (k : Client). k.rows < 4096) c.client.ensures.client c.if-client-ge-CLIENT_ROWS.false))
    c.in_err-said.ensures.refused
    )
