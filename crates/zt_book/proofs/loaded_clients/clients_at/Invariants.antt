-- The clients so far.
use Rattle.std.proofs.Common.{◌≡◌, ◌++◌, map, take}
use Rattle.std.specs.Prelude.{replicate}
use Rattle.zt_book.specs.Session.{first_client}
use Rattle.zt_book.specs.SavedSessions.{client_at}
use Rattle.zt_book.proofs.loaded_clients.clients_at.Given as goal

abbrev pub invariant-loop-place : goal.invariant-loop-place
invariant-loop-place l = l.standing.items ≡ take l.place (map client_at l.cursors ++ replicate l.clients first_client)
