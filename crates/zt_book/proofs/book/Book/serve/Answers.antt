-- What was answered is one row more, and the session before it is kept.
use Rattle.std.proofs.Common.{◌≡◌, ◌≤◌, length, refl, sym, subst}
use Rattle.zt_book.specs.declared.client.Client.{Client}
use Rattle.zt_book.specs.declared.log.Recorded.{Recorded}
use Rattle.zt_book.specs.Log.{BookView}
use Rattle.zt_book.specs.ProofsOnly.SessionState.{session_before}
use Rattle.zt_book.proofs.BookLaws.{book-answered}
use Rattle.zt_book.proofs.book.Book.serve.Goals as goal

pub invariant_of-self-in-Ok : goal.invariant_of-self-in-Ok
invariant_of-self-in-Ok c =
    let d = c.self.inside in
    let row : Recorded = record { client = c.args.client; asked = c.args.request.now; answered = c.in_ok-said.said } in
    let back : session_before c.serve.new.self c.args.client c.client-was.result ≡ d.all_clients.session =
    subst (λ (was : Client). session_before c.serve.new.self c.args.client was ≡ d.all_clients.session) (sym c.client-was.ensures.client) c.in_ok-said.ensures.back in
    let known : c.args.client ≤ length d.all_clients.session.clients =
    subst (λ (b : BookView). c.args.client ≤ length b.session.clients) (sym c.self.view_is) c.requires.known in
    book-answered d.all_clients c.serve.new.self d.log c.add.new.self row c.args.client c.client-was.result c.in-Ok.ensures.ok back
    d.last c.requires.numbered known refl c.in_ok-said.ensures.ok c.in_ok-said.ensures.room c.in_ok-said.ensures.one_more c.limits.ensures.stand c.self.invariant
