-- Events put one behind another: those of one call, object by object, and those of a path, from its end on.
use Rattle.std.specs.Prelude.{◌≡◌, ◌==◌, ℕ, Bool, true, false, not, is_some, ◌&&◌, List, ◌∷◌, [], ◌++◌, reverse, Option, Some}
use Rattle.std.specs.BTreeSet.{BTreeSet, contains}
use Rattle.std.specs.Option.{option_map}
use Rattle.std.specs.Ordering.{nat_cmp}
use Rattle.zt_bits.specs.declared.kinds.Kind.{Kind}
use Rattle.zt_rows.specs.declared.calls.Happening.{Happening}
use Rattle.zt_rows.specs.declared.calls.Happening.TheVariants as happening
use Rattle.zt_rows.specs.declared.keys.RowKey.{RowKey}
use Rattle.zt_rows.specs.declared.keys.RowKey.TheVariants as key
use Rattle.zt_rows.specs.declared.rows.ObjectRow.{ObjectRow}
use Rattle.zt_rows.specs.declared.rows.Row.{Row}
use Rattle.zt_rows.specs.Reads.{as_object, is_live, object, on_object}
use Rattle.zt_rows.specs.State.{State, row}
use Rattle.zt_history.specs.Tree.{Made, parent_at, state_at}
use Rattle.zt_history.specs.RowHappenings.{is_cut_off}
use Rattle.zt_queries.specs.Happenings.{leaked}
use Rattle.zt_look.specs.declared.event_list.HappeningSet.{HappeningSet}
use Rattle.zt_look.specs.declared.event_list.ObjectEvent.{ObjectEvent}
use Rattle.zt_look.specs.declared.event_list.ObjectChange.{ObjectChange}
use Rattle.zt_look.specs.EventList.{AreEvents, is_asked, kind_or}
use Rattle.zt_look.specs.ProofsOnly.RecordSides.{row_before}

-- ---- one object

-- by its rows before and after a call, and whether the call leaked it
abbrev pub shows : Happening → ObjectChange → Bool
shows happening.Made t = not (is_some t.before) && is_some t.after
shows happening.Ended t = on_object (λ o. is_live o.life) t.before && not (on_object (λ o. is_live o.life) t.after)
shows happening.PeerClosed t = not (on_object is_cut_off t.before) && on_object is_cut_off t.after
shows happening.Leaked t = t.leaked

abbrev pub kind_shown : ObjectChange → Option Kind
kind_shown t = kind_or (option_map (λ o. o.kind) t.after) (option_map (λ o. o.kind) t.before)

-- the event, where it happened and there is a kind
abbrev pub event_if : Bool → ℕ → ℕ → Happening → Option Kind → List ObjectEvent
event_if true m x what (Some k) = record { moment = m; koid = x; what = what; kind = k } ∷ []
event_if _ m x what _ = []

-- what happened so, if it did and is asked for
abbrev pub event_shown : HappeningSet → ObjectChange → Happening → List ObjectEvent
event_shown asked t what = event_if (is_asked asked what && shows what t) t.moment t.koid what (kind_shown t)

-- the four in their order
abbrev pub events_shown : HappeningSet → ObjectChange → List ObjectEvent
events_shown asked t =
    event_shown asked t happening.Made ++ event_shown asked t happening.Ended ++ event_shown asked t happening.PeerClosed
    ++ event_shown asked t happening.Leaked

-- ---- one call, by the state before it and its record of the rows after it

abbrev pub is_object : ℕ → RowKey → Bool
is_object x (key.Object y) = y == x
is_object x _ = false

abbrev pub object_over : List (RowKey × Option Row) → State → ℕ → Option ObjectRow
object_over R S x = as_object (row_before R (key.Object x) (row S (key.Object x)))

abbrev pub change_over : List (RowKey × Option Row) → State → ℕ → BTreeSet ℕ → ℕ → ObjectChange
change_over R S m leaked x = record {
  moment = m;
  koid = x;
  before = object S x;
  after = object_over R S x;
  leaked = contains nat_cmp leaked x;
}

-- the set has what the moment's call leaked, if that is asked for, and else nothing
abbrev pub AreLeaked : List Made → HappeningSet → ℕ → BTreeSet ℕ → Type 0
AreLeaked made asked m set = (x : ℕ) → contains nat_cmp set x ≡ (asked.leaked && leaked x (state_at made (parent_at made m)) (state_at made m))

-- ---- a path, from its end on

-- the events of one moment more are put behind the others, the last first
pub record AddsMoment (made : List Made) (asked : HappeningSet) (m : ℕ) (old new : List ObjectEvent) : Type 0 where
  pub here : List ObjectEvent
  pub events : AreEvents made asked (m ∷ []) here
  pub added : new ≡ old ++ reverse here
