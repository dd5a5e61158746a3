-- Where the clients so far stand.
use Rattle.std.proofs.Common.{◌≡◌, map, take}
use Rattle.zt_book.specs.ProofsOnly.SavedSessions.{saved_client}
use Rattle.zt_book.proofs.session_state.SessionState.saved_cursors.Given as goal

abbrev pub invariant-loop-number : goal.invariant-loop-number
invariant-loop-number l = l.cursors.items ≡ map (saved_client l.self.session.tree) (take l.number l.self.session.clients)
