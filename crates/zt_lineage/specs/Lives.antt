-- The life of a handle on a path: the steps by which it came to a place, from the making of its object or from the opening
-- on, and where it went from there. This project's own account; the calls are those of the written semantics.
use Rattle.std.specs.Prelude.{ℕ, zero, suc, Bool, true, false, Option, None, Some, Result, Ok, Err, ◌≡◌, ◌⊎◌, List, [], ◌∷◌, ◌++◌, ◌==◌, ◌&&◌, is_some, length, drop, reverse, slice_get, get_or, position, if◌then◌else◌}
use Rattle.std.specs.Option.{option_map, ok_or}
use Rattle.zt_rows.specs.declared.calls.Call.{Call}
use Rattle.zt_rows.specs.declared.calls.Call.TheVariants as call
use Rattle.zt_rows.specs.declared.calls.Reply.{Reply}
use Rattle.zt_rows.specs.declared.calls.Reply.TheVariants as reply
use Rattle.zt_rows.specs.declared.refusals.Refusal.{Refusal}
use Rattle.zt_rows.specs.declared.refusals.Refusal.TheVariants as refusal
use Rattle.zt_rows.specs.declared.rows.Held.{Held}
use Rattle.zt_rows.specs.State.{State}
use Rattle.zt_rows.specs.Reads.{entry}
use Rattle.zt_rows.specs.Tests.{among, link_at, next_at}
use Rattle.zt_history.specs.Tree.{Made, Tree, call_at, parent_at, path, reply_at, state_at}
use Rattle.zt_history.specs.HistoryRefusals.{◌>>=◌, moment_on}
use Rattle.zt_lineage.specs.declared.places.Place.{Place}
use Rattle.zt_lineage.specs.declared.places.Place.TheVariants as place
use Rattle.zt_lineage.specs.declared.origins.Origin.{Origin}
use Rattle.zt_lineage.specs.declared.origins.Origin.TheVariants as origins
use Rattle.zt_lineage.specs.declared.endings.Ending.{Ending}
use Rattle.zt_lineage.specs.declared.endings.Ending.TheVariants as ending
use Rattle.zt_lineage.specs.declared.handle_life.LifeStep.{LifeStep}
use Rattle.zt_lineage.specs.declared.handle_life.HandleLife.{HandleLife}
use Rattle.zt_lineage.specs.Places.{held_at, is_same}
use Rattle.zt_lineage.specs.Origins.{origin}

-- ---- back to the making of the object

-- where what the place holds came from, by the call with its process, if there is a call
abbrev pub origin_by : State → Option (ℕ × Call) → Place → Origin
origin_by S (Some c) at = origin S c.0 c.1 at
origin_by S None at = origins.Stayed

-- where what the place holds after a moment came from, by the call that made the moment; `Stayed` where no call did
abbrev pub origin_at : List Made → ℕ → Place → Origin
origin_at made m at = origin_by (state_at made (parent_at made m)) (call_at made m) at

-- what another place held, if it held a handle
abbrev pub held_or : Held → Option Held → Held
held_or held (Some other) = other
held_or held None = held

abbrev pub step_of : ℕ → Place → Held → Origin → LifeStep
step_of m at held from = record { moment = m; place = at; held = held; origin = from }

-- the steps up to a moment behind which the place holds this, the latest first: `before` are those before the moment, and S
-- is the state before it
abbrev pub back_by : (Place → Held → List LifeStep) → State → ℕ → Place → Held → Origin → List LifeStep
back_by before S m at held origins.Stayed = before at held
back_by before S m at held origins.Made = step_of m at held origins.Made ∷ []
back_by before S m at held (origins.From other) = step_of m at held (origins.From other) ∷ before other (held_or held (held_at S other))

-- the steps along the first moments of a path, the latest first. One at moment 0 was there from the opening.
abbrev pub comings : List Made → List ℕ → ℕ → Place → Held → List LifeStep
comings made way zero at held = step_of 0 at held origins.Stayed ∷ []
comings made way (suc n) at held =
    back_by (comings made way n) (state_at made (parent_at made (get_or way n 0))) (get_or way n 0) at held (origin_at made (get_or way n 0) at)

-- ---- on from there

-- the message in which p sends the value, if it is listed: a write through what p holds puts it there
abbrev pub message_place : State → Option Held → Option ℕ → Option Place
message_place S (Some held) (Some i) = Some (place.Message (link_at S held.koid) (next_at S (link_at S held.koid)) i)
message_place S _ _ = None

abbrev pub sent_to : State → ℕ → ℕ → List ℕ → Place → Option Place
sent_to S p h values (place.Entry q g) = message_place S (entry S p h) (position (λ v. v == g) values)
sent_to S p h values (place.Message e n i) = None

abbrev pub taken_to : ℕ → Reply → Place → Option Place
taken_to p (reply.Message bytes values) (place.Message e n i) = option_map (place.Entry p) (slice_get values i)
taken_to p _ _ = None

abbrev pub replaced_to : ℕ → Reply → Option Place
replaced_to p (reply.Handle v) = Some (place.Entry p v)
replaced_to p _ = None

-- the first handle of a new process has the value 3
abbrev pub given_to : Reply → Option Place
given_to (reply.Spawned v x) = Some (place.Entry x 3)
given_to _ = None

-- the only place to which the call of p, with this reply, can bring what the place held
abbrev pub successor : State → ℕ → Call → Reply → Place → Option Place
successor S p (call.HandleReplace h rights) r at = replaced_to p r
successor S p (call.ChannelWrite h parcel) r at = sent_to S p h parcel.handles at
successor S p (call.ChannelRead h bytes handles discard) r at = taken_to p r at
successor S p (call.Spawn job argument) r at = given_to r
successor S p _ r at = None

-- the origin is this place
abbrev pub is_from : Origin → Place → Bool
is_from (origins.From other) at = is_same other at
is_from _ at = false

-- that place, where what the call puts there comes from this one
abbrev pub if_from : State → ℕ → Call → Place → Option Place → Option Place
if_from S p c at (Some other) = if is_from (origin S p c other) at then Some other else None
if_from S p c at None = None

-- ---- how a handle ends

-- without a call of its own: an entry goes with its process, a message with its endpoint
abbrev pub lost : Place → Ending
lost (place.Entry p h) = ending.ProcessEnded
lost (place.Message e n i) = ending.QueueGone

abbrev pub ended_if : Bool → Ending → Place → Ending
ended_if test how at = if test then how else lost at

-- an entry of p with one of these values
abbrev pub is_listed : ℕ → List ℕ → Place → Bool
is_listed p values (place.Entry q g) = (q == p) && among values g
is_listed p values (place.Message e n i) = false

abbrev pub is_too_small : Reply → Bool
is_too_small (reply.TooSmall bytes handles) = true
is_too_small _ = false

-- the message is one of the endpoint that the handle names
abbrev pub is_queued_at : Option Held → Place → Bool
is_queued_at (Some held) (place.Message e n i) = e == held.koid
is_queued_at _ _ = false

-- how what the place held ends, by the call of p with this reply
abbrev pub ending_by : State → ℕ → Call → Reply → Place → Ending
ending_by S p (call.HandleClose h) r at = ended_if (is_same at (place.Entry p h)) ending.Closed at
ending_by S p (call.HandleReplace h rights) r at = ended_if (is_same at (place.Entry p h)) ending.Failed at
ending_by S p (call.ChannelWrite h parcel) r at = ended_if (is_listed p parcel.handles at) ending.Failed at
ending_by S p (call.ChannelRead h bytes handles discard) r at = ended_if (is_too_small r && is_queued_at (entry S p h) at) ending.Discarded at
ending_by S p _ r at = lost at

-- ---- along the later moments of a path

-- the further steps of a handle, and how it ended, if it did
pub record Onward : Type 0 where
  pub steps : List LifeStep
  pub ended : Option (ℕ × Ending)

-- where what the place held goes, by the call with its process and its reply, if there is a call
abbrev pub target_by : State → Option (ℕ × Call) → Option Reply → Place → Option Place
target_by S (Some c) (Some r) at = if_from S c.0 c.1 at (successor S c.0 c.1 r at)
target_by S _ _ at = None

abbrev pub target_at : List Made → ℕ → Place → Option Place
target_at made m at = target_by (state_at made (parent_at made m)) (call_at made m) (reply_at made m) at

-- how it ends, where it goes nowhere
abbrev pub end_by : State → Option (ℕ × Call) → Option Reply → Place → Ending
end_by S (Some c) (Some r) at = ending_by S c.0 c.1 r at
end_by S _ _ at = lost at

abbrev pub end_at : List Made → ℕ → Place → Ending
end_at made m at = end_by (state_at made (parent_at made m)) (call_at made m) (reply_at made m) at

-- the place with what it holds in this state, if it holds a handle
abbrev pub arrival : State → Option Place → Option (Place × Held)
arrival T (Some other) = option_map (λ held. (other, held)) (held_at T other)
arrival T None = None

abbrev pub behind : LifeStep → Onward → Onward
behind step later = record { steps = step ∷ later.steps; ended = later.ended }

-- at the moment that takes a handle from the place: a step to where it arrives, and those of `later` from there on; or its end
abbrev pub onward_by : (Place → Onward) → ℕ → Place → Ending → Option (Place × Held) → Onward
onward_by later m at how (Some (other, held)) = behind (step_of m other held (origins.From at)) (later other)
onward_by later m at how None = record { steps = []; ended = Some (m, how) }

-- the further steps of what the place holds, and its end if it has one, along these moments of a path
abbrev pub onward : List Made → List ℕ → Place → Onward
onward made [] at = record { steps = []; ended = None }
onward made (m ∷ later) at =
    if is_some (held_at (state_at made m) at) then onward made later at
    else onward_by (onward made later) m at (end_at made m at) (arrival (state_at made m) (target_at made m at))

-- ---- a whole life

-- of the first moments of a path, the number of those up to the last one behind which the place holds a handle, with what
-- it holds there; none where it never does
abbrev pub or_before : ℕ → Option Held → Option (ℕ × Held) → Option (ℕ × Held)
or_before n (Some held) before = Some (n, held)
or_before n None before = before

abbrev pub last_held : List Made → List ℕ → ℕ → Place → Option (ℕ × Held)
last_held made way zero at = or_before 0 (held_at (state_at made 0) at) None
last_held made way (suc n) at = or_before (suc n) (held_at (state_at made (get_or way n 0)) at) (last_held made way n at)

-- the life of what the place held last, oldest step first
abbrev pub life_from : List Made → List ℕ → Place → ℕ × Held → HandleLife
life_from made way at (n, held) =
    let later : Onward = onward made (drop n way) at in
    record { steps = reverse (comings made way n at held) ++ later.steps; ended = later.ended }

-- the life of what the place held last on the path to a moment of the tree; refused where it held no handle there
abbrev pub life_on : Tree → ℕ → Place → Result HandleLife Refusal
life_on t m at = do
  _ ← moment_on t m
  w ← ok_or (last_held t.made (path t.made m) (length (path t.made m)) at) refusal.NoObject
  Ok (life_from t.made (path t.made m) at w)

-- the refusal that may be given, by the result of the checks: the first that fails, or want of memory for the path and the steps
abbrev pub IsRefused : {A : Type 0} → Result A Refusal → Refusal → Type 0
IsRefused (Ok _) given = given ≡ refusal.OutOfMemory
IsRefused (Err reason) given = (given ≡ reason) ⊎ (given ≡ refusal.OutOfMemory)
