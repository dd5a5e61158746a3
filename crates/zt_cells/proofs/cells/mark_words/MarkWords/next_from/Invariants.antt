use Rattle.std.proofs.Common.{◌≡◌, ◌≤◌, ◌<◌, ◌/◌, ℕ}
use Rattle.zt_cells.specs.ProofsOnly.MarkedNumbers.{mark}
use Rattle.zt_cells.proofs.cells.mark_words.MarkWords.next_from.Given as goal

-- nothing is marked in the words that were passed
abbrev pub invariant-loop-place : goal.invariant-loop-place
invariant-loop-place l = (n : ℕ) → l.from ≤ n → n / 64 < l.place → mark l.self n ≡ 0
