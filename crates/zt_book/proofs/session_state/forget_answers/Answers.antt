-- One client more is as new.
use Rattle.std.proofs.Common.{◌≡◌, ◌<◌, length, ◌∙◌, ap, arith}
use Rattle.zt_book.specs.declared.client.Client.{Client}
use Rattle.zt_book.specs.SavedSessions.{client_at}
use Rattle.zt_book.proofs.RenewLaws.{changed-done, changed-left}
use Rattle.zt_book.proofs.session_state.forget_answers.Goals as goal

pub loop-client-preserved : goal.loop-client-preserved
loop-client-preserved c =
    let as_new : Client → Client = λ client. client_at client.cursor in
    let l = c.loop-client in
    let xs = c.args.clients.now.items in
    let within : l.client-index < length l.client-items = omega (arith, c.loop-client-test.true) in
    let long : length l.client-items ≡ length xs = l.auto.client-items ∙ ap length c.deref_mut-client-items.ensures.value in (
      changed-done as_new xs l.client-items l.client-index c.client-item.result within long l.invariant.0 l.invariant.1,
      changed-left as_new xs l.client-items l.client-index c.client-item.result within long l.invariant.0 l.invariant.1,
    )
