-- The cursors so far are found, and stand.
use Rattle.std.proofs.Common.{◌≡◌, ◌+◌, [], drop}
use Rattle.std.specs.Prelude.{All}
use Rattle.zt_book.specs.SavedSessions.{in_turn, with_cursor}
use Rattle.zt_book.specs.ProofsOnly.SessionState.{IsCursor}
use Rattle.zt_book.proofs.loaded_clients.cursors_in.Given as goal

abbrev pub invariant-loop-place : goal.invariant-loop-place
invariant-loop-place l = record {
  so_far :
      in_turn (with_cursor l.history.tree) (l.number + l.place) l.found.items (drop l.place l.cursors)
      ≡ in_turn (with_cursor l.history.tree) l.number [] l.cursors;
  stand : All (IsCursor l.history.tree) l.found.items;
}
