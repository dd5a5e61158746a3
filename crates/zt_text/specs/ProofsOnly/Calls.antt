-- Words with a space in front of each, as the parts of a call's line are written. Used by proofs only.
use Rattle.std.specs.Prelude.{ℕ, List, [], ◌∷◌, ◌++◌}

-- words with a space in front of each
abbrev pub spaced : List (List ℕ) → List ℕ
spaced [] = []
spaced (word ∷ []) = 32 ∷ word
spaced (word ∷ next ∷ others) = 32 ∷ (word ++ spaced (next ∷ others))
