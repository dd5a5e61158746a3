-- Whether a text stands in a text.
use Rattle.std.specs.Prelude.{ℕ, Bool, ◌||◌, nat_eq, List, [], ◌∷◌}
use Rattle.std.specs.List.{starts_with}

-- at its beginning, or further on
abbrev pub has_text : List ℕ → List ℕ → Bool
has_text [] needle = starts_with nat_eq [] needle
has_text (byte ∷ bytes) needle = starts_with nat_eq (byte ∷ bytes) needle || has_text bytes needle
