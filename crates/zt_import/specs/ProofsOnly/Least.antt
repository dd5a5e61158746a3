-- The least of some numbers. Used by proofs only.
use Rattle.std.specs.Prelude.{◌≡◌, ℕ, Bool, false, nat_lt, List, Option, Some, None, if◌then◌else◌}
use Rattle.std.specs.List.{list_any}

abbrev pub is_below : Option ℕ → ℕ → Bool
is_below None number = false
is_below (Some least) number = nat_lt least number

abbrev pub lesser : Option ℕ → ℕ → Option ℕ
lesser None number = Some number
lesser (Some least) number = Some (if nat_lt least number then least else number)

-- some number of the list is below another one where the least is
abbrev pub IsLeast : Option ℕ → List ℕ → Type 0
IsLeast least numbers = (number : ℕ) → list_any (λ other. nat_lt other number) numbers ≡ is_below least number
