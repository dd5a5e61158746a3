-- The clients are seated in the tree that is loaded.
use Rattle.std.proofs.Common.{arith}
use Rattle.zt_book.proofs.SeatLaws.{loaded_if_seated}
use Rattle.zt_book.proofs.loaded_clients.session_of.Goals as goal

pub returns-clause-ok : goal.returns-clause-ok
returns-clause-ok g c =
    loaded_if_seated c.args.clients _ c.args.moments.items c.args.branches.now c.args.cursors.now c.in_ok-history.history.tree c.seat.result c.requires
    (omega arith) c.in_ok-history.ensures.ok c.seat.ensures.ok
