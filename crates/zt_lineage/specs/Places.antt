-- What the places of handles hold in a state. This project's own form.
use Rattle.std.specs.Prelude.{ℕ, Bool, false, ◌&&◌, ◌==◌, Option, None, Some, slice_get}
use Rattle.std.specs.declared.cmp.Ordering.{Ordering}
use Rattle.std.specs.Ordering.{nat_cmp, on, then_cmp}
use Rattle.zt_rows.specs.declared.rows.Held.{Held}
use Rattle.zt_rows.specs.Contents.{MessageContent}
use Rattle.zt_rows.specs.State.{State}
use Rattle.zt_rows.specs.Reads.{entry, message}
use Rattle.zt_lineage.specs.declared.places.Place.{Place}
use Rattle.zt_lineage.specs.declared.places.Place.TheVariants as place

-- the handle of this index in the message, from 0
abbrev pub handle_in : Option MessageContent → ℕ → Option Held
handle_in (Some m) i = slice_get m.handles i
handle_in None i = None

-- what the place holds, if there is a handle
abbrev pub held_at : State → Place → Option Held
held_at S (place.Entry p h) = entry S p h
held_at S (place.Message e n i) = handle_in (message S e n) i

-- both are one place
abbrev pub is_same : Place → Place → Bool
is_same (place.Entry p h) (place.Entry q g) = (p == q) && (h == g)
is_same (place.Message e n i) (place.Message f m j) = (e == f) && (n == m) && (i == j)
is_same _ _ = false

-- ---- the order of places: entries, then messages, each by their numbers

-- the place of the variant in the list of variants
abbrev pub variant : Place → ℕ
variant (place.Entry p h) = 0
variant (place.Message e n i) = 1

-- the process or the endpoint
abbrev pub owner : Place → ℕ
owner (place.Entry p h) = p
owner (place.Message e n i) = e

-- the handle value or the number of the message
abbrev pub number : Place → ℕ
number (place.Entry p h) = h
number (place.Message e n i) = n

-- which of a message's handles
abbrev pub index : Place → ℕ
index (place.Entry p h) = 0
index (place.Message e n i) = i

abbrev pub place_cmp : Place → Place → Ordering
place_cmp = then_cmp (on variant nat_cmp) (then_cmp (on owner nat_cmp) (then_cmp (on number nat_cmp) (on index nat_cmp)))
