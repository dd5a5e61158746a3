-- The client has room for one row more, since the book has counted one more.
use Rattle.std.proofs.Common.{◌≤◌, length}
use Rattle.zt_shared.proofs.SharingLaws.{room-left}
use Rattle.zt_shared.proofs.answered_command.turn.Goals as goal

pub enter-requires : goal.enter-requires
enter-requires g c =
    let counted = rw c.in_ok-said.ensures.logged at c.rows_are_counted.ensures in
    let known : c.args.client ≤ length c.serve.new.self.session.clients = rw c.serve.ensures.clients c.requires.known in
    rw (c.reserve.ensures.lock, c.requires.told) (record { room = room-left c.serve.new.self.session c.args.client c.args.book.now.log c.args.asked c.in_ok-said.said counted c.requires.numbered known })
