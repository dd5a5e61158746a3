-- How the moments so far were made.
use Rattle.std.proofs.Common.{◌≡◌, map, take}
use Rattle.zt_book.specs.SavedSessions.{saved_call}
use Rattle.zt_book.proofs.session_state.saved_session.saved_moments.Given as goal

abbrev pub invariant-loop-number : goal.invariant-loop-number
invariant-loop-number l = l.moments.items ≡ map saved_call (take l.number l.history.tree.made)
