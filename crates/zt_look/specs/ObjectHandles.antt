-- The handles that named an object, along a path: how each came to its place, and how it left. This project's own.
use Rattle.std.specs.Prelude.{ℕ, zero, suc, Bool, ◌==◌, if◌then◌else◌, List, [], ◌∷◌, ◌++◌, length, Option, None, Some, Result, Ok}
use Rattle.std.specs.List.{cons_option, filter_map, flat_map}
use Rattle.std.specs.Option.{option_map}
use Rattle.zt_rows.specs.declared.keys.RowKey.{RowKey}
use Rattle.zt_rows.specs.declared.keys.RowKey.TheVariants as key
use Rattle.zt_rows.specs.declared.refusals.Refusal.{Refusal}
use Rattle.zt_rows.specs.declared.refusals.Refusal.TheVariants as refusal
use Rattle.zt_rows.specs.declared.rows.Held.{Held}
use Rattle.zt_rows.specs.Change.{changed}
use Rattle.zt_rows.specs.Contents.{MessageContent}
use Rattle.zt_rows.specs.Reads.{message}
use Rattle.zt_rows.specs.State.{State}
use Rattle.zt_history.specs.HistoryRefusals.{check, moment_on, ◌>>=◌}
use Rattle.zt_history.specs.Tree.{Made, Tree, parent_at, path, state_at}
use Rattle.zt_lineage.specs.declared.endings.Ending.{Ending}
use Rattle.zt_lineage.specs.declared.origins.Origin.TheVariants as origins
use Rattle.zt_lineage.specs.declared.places.Place.{Place}
use Rattle.zt_lineage.specs.declared.places.Place.TheVariants as place
use Rattle.zt_lineage.specs.Lives.{arrival, end_at, origin_at, target_at}
use Rattle.zt_lineage.specs.Places.{held_at}
use Rattle.zt_queries.specs.HappeningTimes.{is_known}
use Rattle.zt_look.specs.declared.object_handles.Leaving.{Leaving}
use Rattle.zt_look.specs.declared.object_handles.Leaving.TheVariants as leaving
use Rattle.zt_look.specs.declared.object_handles.ObjectHandle.{ObjectHandle}
use Rattle.zt_look.specs.MessageList.{names_it}

-- the place holds a handle to the object
abbrev pub holds : ℕ → State → Place → Bool
holds x S at = names_it x (held_at S at)

-- ---- a handle that leaves its place

-- how a handle leaves: it moves to the place where it arrives, or else it ends
abbrev pub leaving_by : Option (Place × Held) → Ending → Leaving
leaving_by (Some (other, held)) how = leaving.Moved other
leaving_by None how = leaving.Ended how

abbrev pub leaving_at : List Made → ℕ → Place → Leaving
leaving_at made m at = leaving_by (arrival (state_at made m) (target_at made m at)) (end_at made m at)

-- the first of these moments at which the place holds no handle to the object, and how the handle left by the call there
abbrev pub left_on : List Made → ℕ → List ℕ → Place → Option (ℕ × Leaving)
left_on made x [] at = None
left_on made x (m ∷ later) at = if holds x (state_at made m) at then left_on made x later at else Some (m, leaving_at made m at)

-- ---- a handle that comes to a place

-- the handle, if it names the object
abbrev pub named : ℕ → Option Held → Option Held
named x (Some held) = if held.koid == x then Some held else None
named x None = None

-- a handle to the object that the place holds in T, and did not in S
abbrev pub came : ℕ → State → State → Place → Option Held
came x S T at = if holds x S at then None else named x (held_at T at)

-- the handle that comes to the place by the call of the moment; `left` says how handles leave at the later moments
abbrev pub coming_at : (Place → Option (ℕ × Leaving)) → List Made → ℕ → ℕ → Place → Option ObjectHandle
coming_at left made x m at =
    option_map (λ held. record { moment = m; place = at; held = held; origin = origin_at made m at; left = left at })
    (came x (state_at made (parent_at made m)) (state_at made m) at)

-- the places of the first handles of a message
abbrev pub message_places : ℕ → ℕ → ℕ → List Place
message_places e n zero = []
message_places e n (suc i) = message_places e n i ++ place.Message e n i ∷ []

abbrev pub handle_count : Option MessageContent → ℕ
handle_count (Some m) = length m.handles
handle_count None = 0

-- the places under a row's key in the state
abbrev pub places_under : State → RowKey → List Place
places_under S (key.Entry p h) = place.Entry p h ∷ []
places_under S (key.Msg e n) = message_places e n (handle_count (message S e n))
places_under S _ = []

-- the handles that come by the call of the moment, under the keys that it changed, in their order
abbrev pub comings_at : (Place → Option (ℕ × Leaving)) → List Made → ℕ → ℕ → List ObjectHandle
comings_at left made x m =
    flat_map (λ k. filter_map (coming_at left made x m) (places_under (state_at made m) k)) (changed (state_at made m) (state_at made (parent_at made m)))

-- ---- along a path

-- the handles that come at each of the moments
abbrev pub handles_along : List Made → ℕ → List ℕ → List ObjectHandle
handles_along made x [] = []
handles_along made x (m ∷ later) = comings_at (left_on made x later) made x m ++ handles_along made x later

-- the one handle that is there at the opening: the first process, 1025, holds the root job by the value 3
abbrev pub first_place : Place
first_place = place.Entry 1025 3

abbrev pub first_handle : (Place → Option (ℕ × Leaving)) → List Made → ℕ → Option ObjectHandle
first_handle left made x =
    option_map (λ held. record { moment = 0; place = first_place; held = held; origin = origins.Stayed; left = left first_place })
    (named x (held_at (state_at made 0) first_place))

abbrev pub handles_of : List Made → ℕ → List ℕ → List ObjectHandle
handles_of made x way = cons_option (first_handle (left_on made x way) made x) (handles_along made x way)

-- those on the path to a moment of the tree, of an object whose koid was given out by then
abbrev pub handles_on : Tree → ℕ → ℕ → Result (List ObjectHandle) Refusal
handles_on t at x = do
  _ ← moment_on t at
  _ ← check (is_known (state_at t.made at) x) refusal.NoObject
  Ok (handles_of t.made x (path t.made at))
