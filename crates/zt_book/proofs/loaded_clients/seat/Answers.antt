-- The clients stand in the tree.
use Rattle.std.proofs.Common.{List, subst, sym}
use Rattle.std.specs.Prelude.{All}
use Rattle.zt_book.specs.declared.client.Client.{Client}
use Rattle.zt_book.specs.declared.client.Cursor.{Cursor}
use Rattle.zt_book.specs.ProofsOnly.SessionState.{IsClient, IsCursor}
use Rattle.zt_book.proofs.SeatLaws.{clients-stand}
use Rattle.zt_book.proofs.loaded_clients.seat.Goals as goal

pub over-requires-clause-stand : goal.over-requires-clause-stand
over-requires-clause-stand c =
    subst (λ (l : List Client). All (IsClient c.args.history.tree) l) (sym c.in-Ok.ensures)
    (clients-stand c.args.history.tree c.position-position.ensures.tree c.args.clients c.as_slice.result.now
    (subst (λ (l : List Cursor). All (IsCursor c.args.history.tree) l) (sym c.as_slice.ensures.value) c.in_ok-found.ensures.stand))
