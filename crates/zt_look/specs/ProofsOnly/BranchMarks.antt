-- Marks of moments: the first branch to whose head each of them leads.
use Rattle.std.specs.Prelude.{◌≡◌, ℕ, ◌≤◌, Bool, true, not, ◌&&◌, if◌then◌else◌, List, length, Option, None, Some, get_or, slice_get, slice_set, is_some}
use Rattle.zt_history.specs.Tree.{Made, Branch}
use Rattle.zt_queries.specs.LaterMoments.{leads_to}
use Rattle.zt_look.specs.BranchList.{first_branch, leaving}

-- each moment has the mark of the first of these branches to whose head it leads
abbrev pub AreMarks : List Made → List Branch → List (Option ℕ) → Type 0
AreMarks made branches marks = (x : ℕ) → x ≤ length made → slice_get marks x ≡ Some (first_branch made branches x)

-- the marks with this one for a moment that has none
abbrev pub marked : List (Option ℕ) → ℕ → ℕ → List (Option ℕ)
marked marks m id = if is_some (get_or marks m None) then marks else slice_set marks m (Some id)

-- the moment leads to the head and not to m: it was gone over on the way up from the head to m
abbrev pub is_passed : List Made → ℕ → ℕ → ℕ → Bool
is_passed made head m x = leads_to made x head && not (leads_to made x m)

-- on the way up from a head to m, what was gone over has the marks by one branch more, and the others those by the earlier
pub record AreMarksDownTo (made : List Made) (earlier next : List Branch) (head m : ℕ) (marks : List (Option ℕ)) : Type 0 where
  pub each : (x : ℕ) → x ≤ length made → slice_get marks x ≡ Some (first_branch made (if is_passed made head m x then next else earlier) x)
  pub above : (x : ℕ) → leads_to made x m ≡ true → leads_to made x head ≡ true
  pub left : leaving made earlier head ≡ leaving made earlier m
  pub there : m ≤ length made
