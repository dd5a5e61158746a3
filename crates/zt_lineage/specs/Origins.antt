-- Where what a place holds after a call came from. The calls are those of the written semantics; that a handle given to
-- a new process, sent, taken, duplicated or replaced comes from one place is this project's own account of them.
use Rattle.std.specs.Prelude.{ℕ, true, List, Option, None, Some, ◌≡◌, ◌≤◌, ◌==◌, ◌-◌, ◌/◌, is_some, slice_get, if◌then◌else◌}
use Rattle.zt_rows.specs.declared.calls.Call.{Call}
use Rattle.zt_rows.specs.declared.calls.Call.TheVariants as call
use Rattle.zt_rows.specs.declared.rows.Held.{Held}
use Rattle.zt_rows.specs.Contents.{MessageContent}
use Rattle.zt_rows.specs.State.{State}
use Rattle.zt_rows.specs.Reads.{entry, queue}
use Rattle.zt_rows.specs.Tests.{first, has_all}
use Rattle.zt_rows.specs.Handles.{caller, next_koid}
use Rattle.zt_lineage.specs.declared.places.Place.{Place}
use Rattle.zt_lineage.specs.declared.places.Place.TheVariants as place
use Rattle.zt_lineage.specs.declared.origins.Origin.{Origin}
use Rattle.zt_lineage.specs.declared.origins.Origin.TheVariants.{Stayed, Made, From}
use Rattle.zt_lineage.specs.Places.{held_at}

-- ---- the handles that a call sends and takes

-- the entry of p with this value, if there is a value
abbrev pub from_value : ℕ → Option ℕ → Origin
from_value p (Some h) = From (place.Entry p h)
from_value p None = Made

-- the handle of this index in the first of an endpoint's messages
abbrev pub from_first : ℕ → ℕ → Option (ℕ × MessageContent) → Origin
from_first e i (Some (n, m)) = From (place.Message e n i)
from_first e i None = Made

-- the handle of this index in the message that p reads through the entry
abbrev pub from_queue : State → ℕ → Option Held → Origin
from_queue S i (Some held) = from_first held.koid i (first (queue S held.koid))
from_queue S i None = Made

-- which of the handles that p receives in a call has this value, from 0: the n-th handle of a process has the value 4 n + 3
abbrev pub received_as : State → ℕ → ℕ → ℕ
received_as S p h = (h - 3) / 4 - (caller S p).next

-- ---- a place that a call fills

-- a message that p sends, with the handles of these values
abbrev pub sent_from : ℕ → List ℕ → Place → Origin
sent_from p values (place.Message e n i) = from_value p (slice_get values i)
sent_from p values (place.Entry q g) = Made

-- an entry of p, by a read through its handle h
abbrev pub taken_from : State → ℕ → ℕ → Place → Origin
taken_from S p h (place.Entry q g) = from_queue S (received_as S p g) (entry S p h)
taken_from S p h (place.Message e n i) = Made

-- an entry of the process that p makes, or the one by which p has that process
abbrev pub given_from : ℕ → ℕ → Place → Origin
given_from p argument (place.Entry q g) = if q == p then Made else From (place.Entry p argument)
given_from p argument (place.Message e n i) = Made

-- where what the call puts there comes from
abbrev pub filled_by : State → ℕ → Call → Place → Origin
filled_by S p (call.HandleDuplicate h rights) at = From (place.Entry p h)
filled_by S p (call.HandleReplace h rights) at = From (place.Entry p h)
filled_by S p (call.ChannelWrite h parcel) at = sent_from p parcel.handles at
filled_by S p (call.ChannelRead h bytes handles discard) at = taken_from S p h at
filled_by S p (call.Spawn job argument) at = given_from p argument at
filled_by S p _ at = Made

-- where what the place holds after the call of p came from
abbrev pub origin : State → ℕ → Call → Place → Origin
origin S p c at = if is_some (held_at S at) then Stayed else filled_by S p c at

-- ---- what an origin says

-- `old` names the same object as `held` and has at least its rights
pub record Gives (old held : Held) : Type 0 where
  pub object : held.koid ≡ old.koid
  pub rights : has_all old.rights.0 held.rights.0 ≡ true

-- what the place holds now is of this origin in S
abbrev pub IsFrom : State → Held → Place → Origin → Type 0
IsFrom S held at Stayed = held_at S at ≡ Some held
IsFrom S held at Made = next_koid S ≤ held.koid
IsFrom S held at (From other) = (old : Held) × (held_at S other ≡ Some old) × Gives old held
