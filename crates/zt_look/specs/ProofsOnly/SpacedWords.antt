-- Words with a space in front of each.
use Rattle.std.specs.Prelude.{ℕ, List, ◌∷◌}
use Rattle.std.specs.List.{flat_map}

abbrev pub behind_spaces : List (List ℕ) → List ℕ
behind_spaces fields = flat_map (λ word. 32 ∷ word) fields
