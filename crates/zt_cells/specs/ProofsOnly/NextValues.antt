-- The next value of an entry of a process, among those that leave some remainders by four. Used by proofs only.
use Rattle.std.specs.Prelude.{◌≡◌, ◌≤◌, ◌<◌, ◌%◌, ℕ, List, Option, Some, None, IsSome, min}
use Rattle.std.specs.Option.{MatchOption}
use Rattle.zt_rows.specs.declared.rows.Row.{Row}
use Rattle.zt_cells.specs.ProofsOnly.TablePlaces.{entry}

-- from this value on this one is the least with an entry of those whose remainders are among these
pub record IsNextValueAt (sizes : List (List (List (Option Row)))) (p from : ℕ) (among : ℕ → Type 0) (h : ℕ) : Type 0 where
  pub from_there : from ≤ h
  pub there : IsSome (entry sizes p h)
  pub least : (g : ℕ) → among (g % 4) → from ≤ g → g < h → entry sizes p g ≡ None

-- the least value from this one on with an entry, of those whose remainders are among these, or none where none of them has one
abbrev pub IsNextValue : List (List (List (Option Row))) → ℕ → ℕ → (ℕ → Type 0) → Option ℕ → Type 0
IsNextValue sizes p from among found =
    MatchOption found ((g : ℕ) → among (g % 4) → from ≤ g → entry sizes p g ≡ None) (IsNextValueAt sizes p from among)

-- the lesser of two values, where there is one
abbrev pub lesser_of : Option ℕ → Option ℕ → Option ℕ
lesser_of None b = b
lesser_of (Some x) None = Some x
lesser_of (Some x) (Some y) = Some (min x y)
