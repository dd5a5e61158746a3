-- The moments so far are made, and the others are left, the next one last.
use Rattle.std.proofs.Common.{◌≡◌, ◌+◌, drop, reverse}
use Rattle.zt_book.specs.SavedSessions.{in_turn, with_moment}
use Rattle.zt_book.proofs.loaded_tree.put_moments.Given as goal

abbrev pub invariant-loop-place : goal.invariant-loop-place
invariant-loop-place g l = record {
  so_far : in_turn with_moment (0 + l.place) l.history.tree (drop l.place l.fn.moments.items) ≡ in_turn with_moment 0 l.fn.history.tree l.fn.moments.items;
  others : reverse l.left.items ≡ drop l.place l.fn.moments.items;
}
