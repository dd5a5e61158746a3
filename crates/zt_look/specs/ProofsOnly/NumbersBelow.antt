-- What is told of the numbers below one, in their order.
use Rattle.std.specs.Prelude.{ℕ, zero, suc, List, [], ◌++◌, Option}
use Rattle.std.specs.List.{cons_option}

abbrev pub told_below : {A : Type 0} → (ℕ → Option A) → ℕ → List A
told_below f zero = []
told_below f (suc n) = told_below f n ++ cons_option (f n) []
