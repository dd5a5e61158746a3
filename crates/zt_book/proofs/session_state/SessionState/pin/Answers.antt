-- What is known of the client is that it pinned its position.
use Rattle.std.proofs.Common.{◌∙◌, ap}
use Rattle.std.specs.Prelude.{Some}
use Rattle.zt_book.specs.declared.client.Client.{Client}
use Rattle.zt_book.specs.ProofsOnly.SessionState.{SessionStateView}
use Rattle.zt_book.specs.Session.{with_client}
use Rattle.zt_book.proofs.SessionStateLaws.{pin-seen}
use Rattle.zt_book.proofs.session_state.SessionState.pin.Goals as goal

pub returns-clause-ok : goal.returns-clause-ok
returns-clause-ok c =
    pin-seen c.args.self.now.session c.put.new.self.session c.args.client c.position-position.result _ c.position-position.ensures.position
    (ap (λ (k : Client). let z : Client = record k { pinned = Some c.position-position.result } in z) c.client-known.ensures.client)
    (c.put.ensures.session ∙ ap (λ (d : SessionStateView). with_client d.session c.args.client (record c.client-known.result { pinned = Some c.position-position.result })) c.self.view_is)
