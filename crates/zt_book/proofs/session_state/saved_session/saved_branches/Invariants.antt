-- The branches so far.
use Rattle.std.proofs.Common.{◌≡◌, map, take}
use Rattle.zt_book.specs.SavedSessions.{saved_branch}
use Rattle.zt_book.proofs.session_state.saved_session.saved_branches.Given as goal

abbrev pub invariant-loop-number : goal.invariant-loop-number
invariant-loop-number l = l.branches.items ≡ map saved_branch (take l.number l.history.tree.branches)
