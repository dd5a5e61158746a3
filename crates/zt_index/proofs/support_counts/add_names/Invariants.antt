use Rattle.std.proofs.Common.{◌≡◌, ℕ, take}
use Rattle.zt_index.specs.KoidCounts.{numbers_at, plus}
use Rattle.zt_index.specs.ProofsOnly.CountedRows.{names_given}
use Rattle.zt_index.proofs.support_counts.add_names.Given as goal

-- the handles so far are added
abbrev pub invariant-loop-held : goal.invariant-loop-held
invariant-loop-held l =
    (x : ℕ) → numbers_at l.numbers x ≡ plus (numbers_at l.initial.numbers x) (names_given x (take l.held-index l.handles))
