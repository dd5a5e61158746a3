-- One client more stands at the next cursor.
use Rattle.std.proofs.Common.{◌∙◌}
use Rattle.zt_book.proofs.SeatLaws.{client-next}
use Rattle.zt_book.proofs.loaded_clients.clients_at.Goals as goal

pub loop-place-preserved : goal.loop-place-preserved
loop-place-preserved c =
    c.in_ok-push.ensures.items
    ∙ client-next c.args.clients c.loop-place.place c.args.cursors.now c.loop-place.standing.items c.cursor_at.result c.loop-place-test.true c.cursor_at.ensures
    c.loop-place.invariant
