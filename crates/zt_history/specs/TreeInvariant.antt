-- What holds of every tree, and the record of each moment: the rows by which a store goes over the call that made it,
-- back or forth.
use Rattle.std.specs.Prelude.{◌≡◌, ℕ, suc, ◌≤◌, true, if◌then◌else◌, List, length, map, Option, Some, slice_get}
use Rattle.std.specs.List.{AllByRecursion, IsDistinct}
use Rattle.std.specs.Option.{option_map}
use Rattle.std.specs.Str.{bytes_eq}
use Rattle.zt_rows.specs.declared.keys.RowKey.{RowKey}
use Rattle.zt_rows.specs.declared.rows.Row.{Row}
use Rattle.zt_rows.specs.Change.{before}
use Rattle.zt_rows.specs.Reads.{has_live_process}
use Rattle.zt_rows.specs.Step.{IsCall, step}
use Rattle.zt_rows.specs.Tests.{among}
use Rattle.zt_history.specs.Tree.{Made, Branch, Tree, main_name, last_moment, made_at, parent_at, path, state_at}
use Rattle.zt_history.specs.HistoryRefusals.{most_moments}

-- ---- trees

-- each moment's parent is earlier
abbrev pub Falls : List Made → Type 0
Falls made = (i : ℕ) → parent_at made (suc i) ≤ i

-- the moment was made as it says: by a process that runs in its parent's state, by a call that there can be, with the
-- reply of that call there
pub record IsMade (made : List Made) (e : Made) : Type 0 where
  pub running : has_live_process (state_at made e.parent) e.process ≡ true
  pub limits : IsCall e.call
  pub answered : e.reply ≡ (step (state_at made e.parent) e.process e.call).1

-- what holds of moments, whatever branches there are
pub record AreMoments (made : List Made) : Type 0 where
  pub few : length made ≤ most_moments
  pub falls : Falls made
  pub each : (i : ℕ) (e : Made) → slice_get made i ≡ Some e → IsMade made e

abbrev pub names_of : List Branch → List (List ℕ)
names_of branches = map (λ b. b.name) branches

-- what holds of branches beside so many moments: the first is `main`, each has a name of its own, and its head is a moment
pub record AreBranches (moments : ℕ) (branches : List Branch) : Type 0 where
  pub main : slice_get (names_of branches) 0 ≡ Some main_name
  pub names : IsDistinct bytes_eq (names_of branches)
  pub heads : AllByRecursion (λ b. b.head ≤ moments) branches

pub record IsTree (t : Tree) : Type 0 where
  pub moments : AreMoments t.made
  pub branches : AreBranches (last_moment t) t.branches

-- ---- records

-- the record of a moment, for a store at the position: where the moment is on the path there, the rows before its
-- call, else the rows after it
unfoldable pub record_of : List Made → ℕ → ℕ → List (RowKey × Option Row)
record_of made position m =
    if among (path made position) m
    then before (state_at made (parent_at made m)) (state_at made m)
    else before (state_at made m) (state_at made (parent_at made m))

-- the record of a moment, for a store at the position; none for the opening, nor beyond the last moment
abbrev pub recorded_at : List Made → ℕ → ℕ → Option (List (RowKey × Option Row))
recorded_at made position m = option_map (λ _. record_of made position m) (made_at made m)
