-- The list of what is under a job, as it grows by rising koid. This project's own form. Used by proofs only.
use Rattle.std.specs.Prelude.{◌<◌, ℕ, List}
use Rattle.std.specs.List.{AllPairs}

-- each number of the list is below those behind it
abbrev pub IsRising : List ℕ → Type 0
IsRising xs = AllPairs (λ x y. x < y) xs
