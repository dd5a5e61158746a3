-- The handles of a field that lists some. Used by proofs only.
use Rattle.std.specs.Prelude.{ℕ, List, [], Option, Some, None}
use Rattle.zt_text.specs.Lists.{handles_of}

abbrev pub items_of : Option (List ℕ) → List ℕ
items_of None = []
items_of (Some items) = items

-- none, where the field lists none
abbrev pub handles_in : List ℕ → List ℕ
handles_in field = items_of (handles_of field)
