-- The client has no room, or memory alone can be refused.
use Rattle.std.proofs.Common.{◌≤◌, ◌<◌, ◌∙◌, subst}
use Rattle.zt_rows.specs.declared.calls.Command.TheVariants as command
use Rattle.zt_book.specs.declared.client.Client.{Client}
use Rattle.zt_book.specs.Session.{client_of, serve, IsCommandRefusal}
use Rattle.zt_book.proofs.SessionStateLaws.{serve-full, pin-memory, memory-alone}
use Rattle.zt_book.proofs.book.Book.frozen.Goals as goal

pub returns-then-client-ge-CLIENT_ROWS-clause-refused : goal.returns-then-client-ge-CLIENT_ROWS-clause-refused
returns-then-client-ge-CLIENT_ROWS-clause-refused c =
    serve-full c.args.self.now.session c.args.client command.Pin
    (subst (λ (k : Client). 4096 ≤ k.rows) (c.client.ensures.client ∙ (λ i. client_of (c.self.view_is i).session c.args.client)) c.if-client-ge-CLIENT_ROWS.true)

pub returns-clause-refused : goal.returns-clause-refused
returns-clause-refused c =
    memory-alone (IsCommandRefusal (serve c.args.self.now.session c.args.client command.Pin)) c.frozen.result
    (pin-memory c.args.self.now.session c.args.client
    (subst (λ (k : Client). k.rows < 4096) (c.client.ensures.client ∙ (λ i. client_of (c.self.view_is i).session c.args.client)) c.if-client-ge-CLIENT_ROWS.false))
    c.frozen.ensures.refused
