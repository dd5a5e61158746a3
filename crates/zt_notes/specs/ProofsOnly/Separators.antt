-- The separator between two parts. Used by proofs only.
use Rattle.std.specs.Prelude.{ℕ, Bool, true, false, List, [], ◌∷◌}

-- the separator, where other parts follow
abbrev pub separator_ahead : ℕ → Bool → List ℕ
separator_ahead separator true = separator ∷ []
separator_ahead separator false = []
