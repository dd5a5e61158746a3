-- The parts of a text between separators.
use Rattle.std.specs.Prelude.{◌≡◌, ℕ, ◌==◌, List, [], ◌∷◌, Option, Some, None}
use Rattle.std.specs.List.{slice_split}
use denote.Ref.{Bor}

-- a text is cut at each separator
abbrev pub parts_of : ℕ → List ℕ → List (List ℕ)
parts_of separator text = slice_split (λ byte. byte == separator) text

-- the parts of what is left; none where no separator was left
abbrev pub parts_left : ℕ → Option (Bor (List ℕ)) → List (List ℕ)
parts_left separator None = []
parts_left separator (Some left) = parts_of separator left.now

-- the part is the first of these
abbrev pub IsFirst : List ℕ → List (List ℕ) → Type 0
IsFirst part [] = ⊥
IsFirst part (first ∷ parts) = first ≡ part
