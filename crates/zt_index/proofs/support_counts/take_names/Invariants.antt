use Rattle.std.proofs.Common.{◌≡◌, ℕ, take}
use Rattle.zt_index.specs.KoidCounts.{numbers_at, plus}
use Rattle.zt_index.specs.ProofsOnly.CountedRows.{names_given}
use Rattle.zt_index.proofs.support_counts.take_names.Given as goal

-- the handles so far are taken off
abbrev pub invariant-loop-held : goal.invariant-loop-held
invariant-loop-held l =
    (x : ℕ) → plus (numbers_at l.numbers x) (names_given x (take l.held-index l.handles)) ≡ numbers_at l.initial.numbers x
