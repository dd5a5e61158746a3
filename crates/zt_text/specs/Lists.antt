-- A list of handles as a line writes it: up to 64 of them with a comma between, or `-` for none.
use Rattle.std.specs.Prelude.{ℕ, nat_le, List, [], ◌∷◌, length, Option, Some, None, if◌then◌else◌, codes}
use Rattle.std.specs.Str.{bytes_eq}
use Rattle.zt_text.specs.Numbers.{handle_of}
use Rattle.zt_text.specs.Fields.{parts_of}

-- an element in front of the others, where both are there
abbrev pub in_front : Option ℕ → Option (List ℕ) → Option (List ℕ)
in_front (Some element) (Some others) = Some (element ∷ others)
in_front _ _ = None

-- the handle of each element, where each has its form
abbrev pub each_handle : List (List ℕ) → Option (List ℕ)
each_handle [] = Some []
each_handle (element ∷ elements) = in_front (handle_of element) (each_handle elements)

-- no more handles than a message takes
abbrev pub at_most_64 : Option (List ℕ) → Option (List ℕ)
at_most_64 None = None
at_most_64 (Some handles) = if nat_le (length handles) 64 then Some handles else None

-- the handles that commas cut a field into
unfoldable pub listed : List ℕ → Option (List ℕ)
listed field = at_most_64 (each_handle (parts_of 44 field))

-- the handles that a field lists
unfoldable pub handles_of : List ℕ → Option (List ℕ)
handles_of field = if bytes_eq field (codes "-") then Some [] else listed field
