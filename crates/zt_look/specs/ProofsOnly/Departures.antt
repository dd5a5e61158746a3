-- Handles that leave their places, as they are noted on the way back along a path.
use Rattle.std.specs.Prelude.{◌≡◌, ℕ, Bool, true, not, ◌&&◌, if◌then◌else◌, List, Option, Some}
use Rattle.std.specs.List.{list_any}
use Rattle.zt_rows.specs.State.{State}
use Rattle.zt_history.specs.Tree.{Made, parent_at, state_at}
use Rattle.zt_lineage.specs.declared.places.Place.{Place}
use Rattle.zt_lineage.specs.Places.{is_same}
use Rattle.zt_look.specs.declared.object_handles.Leaving.{Leaving}
use Rattle.zt_look.specs.ObjectHandles.{holds, leaving_at, left_on}

-- the place holds a handle to the object before the call of the moment, and none after it
abbrev pub departs : List Made → ℕ → ℕ → Place → Bool
departs made x m at = holds x (state_at made (parent_at made m)) at && not (holds x (state_at made m) at)

-- how the handle leaves by the call of the moment, if it does, or else what was noted
abbrev pub departed : List Made → ℕ → ℕ → Place → Option (ℕ × Leaving) → Option (ℕ × Leaving)
departed made x m at old = if departs made x m at then Some (m, leaving_at made m at) else old

abbrev pub is_in : List Place → Place → Bool
is_in places at = list_any (λ other. is_same other at) places

-- how the handle leaves by the call of the moment, if it does and its place is one of these, or else what was noted
abbrev pub departed_in : List Made → ℕ → ℕ → List Place → Place → Option (ℕ × Leaving) → Option (ℕ × Leaving)
departed_in made x m places at old = if is_in places at && departs made x m at then Some (m, leaving_at made m at) else old

-- for each place that holds a handle to the object in the state, how it leaves at these moments
abbrev pub AreDepartures : List Made → ℕ → State → List ℕ → (Place → Option (ℕ × Leaving)) → Type 0
AreDepartures made x S later left = (at : Place) → holds x S at ≡ true → left at ≡ left_on made x later at
