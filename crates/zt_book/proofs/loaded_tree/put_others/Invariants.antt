-- The branches so far are made.
use Rattle.std.proofs.Common.{◌≡◌, ◌+◌, drop}
use Rattle.zt_book.specs.SavedSessions.{in_turn, with_branch}
use Rattle.zt_book.proofs.loaded_tree.put_others.Given as goal

abbrev pub invariant-loop-place : goal.invariant-loop-place
invariant-loop-place l =
    in_turn with_branch (l.number + l.place) l.history.tree (drop l.place l.branches) ≡ in_turn with_branch l.number l.fn.history.tree l.branches
