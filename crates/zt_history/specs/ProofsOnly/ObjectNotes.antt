-- What is noted of the objects beside the moments: what each call did to them, chained for each object, and the next koid.
-- Used by proofs only.
use Rattle.std.specs.Prelude.{◌≡◌, ℕ, zero, suc, ◌==◌, ◌-◌, ◌≤◌, ◌<◌, Bool, true, false, not, ◌&&◌, ◌||◌, if◌then◌else◌, List, [], ◌∷◌, ◌++◌, length, map, Option, None, Some, slice_get, slice_index_or}
use Rattle.std.specs.List.{AllByRecursion, flat_map}
use Rattle.zt_rows.specs.declared.keys.RowKey.{RowKey}
use Rattle.zt_rows.specs.declared.keys.RowKey.TheVariants as key
use Rattle.zt_rows.specs.declared.rows.Held.{Held}
use Rattle.zt_rows.specs.declared.rows.ObjectRow.{ObjectRow}
use Rattle.zt_rows.specs.declared.rows.Row.{Row}
use Rattle.zt_rows.specs.declared.rows.Row.TheVariants as rows
use Rattle.zt_rows.specs.Change.{before}
use Rattle.zt_rows.specs.Handles.{next_koid}
use Rattle.zt_rows.specs.Reads.{is_live_job, is_live_process, names}
use Rattle.zt_rows.specs.State.{State, row}
use Rattle.zt_rows.specs.Tests.{among, exists}
use Rattle.zt_store.specs.RecordLook.{held}
use Rattle.zt_history.specs.declared.object_notes.Noted.{Noted}
use Rattle.zt_history.specs.declared.object_notes.Noted.TheVariants as did
use Rattle.zt_history.specs.declared.object_notes.note_chains.ObjectNote.{ObjectNote}
use Rattle.zt_history.specs.declared.object_notes.Sought.{Sought}
use Rattle.zt_history.specs.declared.object_notes.Sought.TheVariants as sought
use Rattle.zt_history.specs.declared.row_happenings.RowHappening.{RowHappening}
use Rattle.zt_history.specs.declared.row_happenings.RowHappening.TheVariants as happening
use Rattle.zt_history.specs.declared.row_happenings.ShownChanges.{ShownChanges}
use Rattle.zt_history.specs.LostChild.{is_child_row}
use Rattle.zt_history.specs.RowHappenings.{shows}
use Rattle.zt_history.specs.Tree.{Made, parent_at, path, state_at}

-- what a moment's call did to an object: that it showed in its row, or that a name or a live child of it went while it stayed
pub record ChangeNote : Type 0 where
  pub moment : ℕ
  pub koid : ℕ
  pub what : Noted

pub record NotedChanges : Type 0 where
  pub notes : List ChangeNote
  pub next_koids : List ℕ

abbrev pub note_as : ObjectNote → ChangeNote
note_as c = record { moment = c.moment; koid = c.koid; what = c.what }

abbrev pub notes_in : List ObjectNote → List ChangeNote
notes_in list = map note_as list

-- it is among what shows
abbrev pub has_shown : RowHappening → ShownChanges → Bool
has_shown happening.Made shown = shown.made
has_shown happening.Ended shown = shown.ended
has_shown happening.PeerClosed shown = shown.peer_closed

abbrev pub is_told : Sought → Noted → Bool
is_told (sought.Shown what) (did.Shown shown) = has_shown what shown
is_told (sought.Shown what) _ = false
is_told sought.Released did.Released = true
is_told sought.Released _ = false
is_told sought.LostChild did.LostChild = true
is_told sought.LostChild _ = false

abbrev pub tells : Sought → ChangeNote → Bool
tells what n = is_told what n.what

-- ---- what is noted of a moment

-- of an object
abbrev pub note_with : ℕ → ℕ → Noted → ChangeNote
note_with m x what = record { moment = m; koid = x; what = what }

-- the list of that one note where it happened, else the empty list
abbrev pub note_if : Bool → ℕ → ℕ → Noted → List ChangeNote
note_if happened m x what = if happened then note_with m x what ∷ [] else []

-- what shows in its row before the call and after it
abbrev pub shown_by : Option Row → Option Row → ShownChanges
shown_by r s = record {
  made = shows happening.Made r s;
  ended = shows happening.Ended r s;
  peer_closed = shows happening.PeerClosed r s;
}

-- that, and nothing where nothing shows
abbrev pub note_of : ℕ → ℕ → Option Row → Option Row → List ChangeNote
note_of m x r s = note_if (shows happening.Made r s || (shows happening.Ended r s || shows happening.PeerClosed r s)) m x (did.Shown (shown_by r s))

-- the object is there in T, and the row s fails the test, under a key where one passed it before
abbrev pub is_left : (ℕ → Option Row → Bool) → ℕ → Option Row → State → Bool
is_left stands x s T = exists T x && not (stands x s)

-- the object is there in T, and the row s does not name it, under a key whose row named it before
abbrev pub is_released : ℕ → Option Row → State → Bool
is_released x s T = is_left names x s T

-- that a name of an object went, by the row s after it; nothing where it did not
abbrev pub gone_name : ℕ → Option Row → State → ℕ → List ChangeNote
gone_name m s T x = note_if (is_released x s T) m x did.Released

-- for each of these handles of a message, that a name of its object went, by the row s after the call; nothing where it did not
abbrev pub gone_names : ℕ → Option Row → State → List Held → List ChangeNote
gone_names m s T handles = flat_map (λ held. gone_name m s T held.koid) handles

-- for each object that the row before the call named, that a name of it went, by the row s after the call
abbrev pub gone_of : ℕ → Option Row → Option Row → State → List ChangeNote
gone_of m (Some (rows.Entry held)) s T = gone_name m s T held.koid
gone_of m (Some (rows.Msg sent)) s T = gone_names m s T sent.handles
gone_of m _ s T = []

-- the parent of a live process or job
abbrev pub parent_of : ObjectRow → Option ℕ
parent_of o = if is_live_job o || is_live_process o then Some o.link else None

-- the parent of the live process or job in a row, none where the row has no such object
abbrev pub parent_in : Option Row → Option ℕ
parent_in (Some (rows.Object o)) = parent_of o
parent_in _ = None

-- the object is there in T, and the row s is no live child of it, under a key whose row was one before
abbrev pub is_lost : ℕ → Option Row → State → Bool
is_lost x s T = is_left is_child_row x s T

-- that a live child of it is none any more, by the row s after it; nothing where it is
abbrev pub lost_child : ℕ → Option Row → State → ℕ → List ChangeNote
lost_child m s T x = note_if (is_lost x s T) m x did.LostChild

-- that the parent, where there is one, lost a live child, by the row s after it
abbrev pub lost_by : ℕ → Option Row → State → Option ℕ → List ChangeNote
lost_by m s T None = []
lost_by m s T (Some x) = lost_child m s T x

-- that the parent of what stood in the row r before the call lost a live child, by the row s after the call
abbrev pub loss_of : ℕ → Option Row → Option Row → State → List ChangeNote
loss_of m r s T = lost_by m s T (parent_in r)

-- of an object and its parent, by the row before the call, which led to T
abbrev pub note_object : ℕ → ℕ → Option Row → State → List ChangeNote
note_object m x r T = note_of m x r (row T (key.Object x)) ++ loss_of m r (row T (key.Object x)) T

-- of what stands under a key: of an object what shows and what its parent lost, else what is released
abbrev pub note_before : ℕ → Option Row → State → RowKey → List ChangeNote
note_before m r T (key.Object x) = note_object m x r T
note_before m r T k = gone_of m r (row T k) T

-- what is noted of a key by the row that a record has from before the call; nothing where the record does not have the key
abbrev pub note_over : ℕ → Option (Option Row) → State → RowKey → List ChangeNote
note_over m None T k = []
note_over m (Some r) T k = note_before m r T k

-- what is noted of a key by the record R of the call; nothing where R does not have the key
abbrev pub note_under : ℕ → List (RowKey × Option Row) → State → RowKey → List ChangeNote
note_under m R T k = note_over m (held R k) T k

abbrev pub notes_under : ℕ → List (RowKey × Option Row) → State → List RowKey → List ChangeNote
notes_under m R T keys = flat_map (note_under m R T) keys

abbrev pub notes_of : ℕ → List (RowKey × Option Row) → State → List ChangeNote
notes_of m R T = notes_under m R T (map (λ e. e.0) R)

abbrev pub noted : NotedChanges → ℕ → List (RowKey × Option Row) → State → NotedChanges
noted c m R T = record { notes = c.notes ++ notes_of m R T; next_koids = c.next_koids ++ next_koid T ∷ [] }

-- ---- what is noted of all moments

abbrev pub notes_at : List Made → ℕ → List ChangeNote
notes_at made m = notes_of m (before (state_at made (parent_at made m)) (state_at made m)) (state_at made m)

-- up to so many
abbrev pub notes_to : List Made → ℕ → List ChangeNote
notes_to made zero = []
notes_to made (suc i) = notes_to made i ++ notes_at made (suc i)

abbrev pub next_koids_to : List Made → ℕ → List ℕ
next_koids_to made zero = next_koid (state_at made 0) ∷ []
next_koids_to made (suc i) = next_koids_to made i ++ next_koid (state_at made (suc i)) ∷ []

pub record AreNoted (made : List Made) (c : NotedChanges) : Type 0 where
  pub notes : c.notes ≡ notes_to made (length made)
  pub next_koids : c.next_koids ≡ next_koids_to made (length made)

-- ---- the chains of the objects

abbrev pub is_of : ℕ → Option ObjectNote → Bool
is_of x None = false
is_of x (Some c) = c.koid == x

-- the place behind that of the last change of the object among the first n, 0 where there is none
abbrev pub last_of : ℕ → List ObjectNote → ℕ → ℕ
last_of x list zero = 0
last_of x list (suc n) = if is_of x (slice_get list n) then suc n else last_of x list n

abbrev pub end_at : List ℕ → ℕ → ℕ
end_at last x = slice_index_or last x 0

-- each change has the place behind that of the object's earlier one
abbrev pub AreLinked : List ObjectNote → Type 0
AreLinked list = (i : ℕ) (c : ObjectNote) → slice_get list i ≡ Some c → c.earlier ≡ last_of c.koid list i

pub record AreChained (list : List ObjectNote) (last : List ℕ) : Type 0 where
  pub earlier : AreLinked list
  pub ends : (x : ℕ) → end_at last x ≡ last_of x list (length list)

abbrev pub IsSameEnd : List ℕ → List ℕ → Type 0
IsSameEnd old new = (x : ℕ) → end_at new x ≡ end_at old x

-- there are further changes behind
pub record IsLonger (old new : List ChangeNote) : Type 0 where
  pub more : List ChangeNote
  pub apart : new ≡ old ++ more

-- ---- changes that are dropped

abbrev pub is_at : ℕ → Option ChangeNote → Bool
is_at m None = false
is_at m (Some n) = n.moment == m

abbrev pub ends_at : List ChangeNote → ℕ → Bool
ends_at notes m = is_at m (slice_get notes (length notes - 1))

-- new is old without its last ones, all of one moment, of which none is left at the end
pub record IsCut (old new : List ChangeNote) (m : ℕ) : Type 0 where
  pub gone : List ChangeNote
  pub apart : old ≡ new ++ gone
  pub each : AllByRecursion (λ n. n.moment ≡ m) gone
  pub ends : ends_at new m ≡ false

-- ---- changes that are looked for

-- later ones stand behind earlier ones, and none is the opening's
pub record AreRising (notes : List ChangeNote) : Type 0 where
  pub some : (i : ℕ) (n : ChangeNote) → slice_get notes i ≡ Some n → 0 < n.moment
  pub later : (i j : ℕ) (n k : ChangeNote) → i ≤ j → slice_get notes i ≡ Some n → slice_get notes j ≡ Some k → n.moment ≤ k.moment

-- it is noted of the object at a moment on the path to `at`
abbrev pub is_found : List Made → Sought → ℕ → ℕ → ChangeNote → Bool
is_found made what x at n = (n.koid == x) && (tells what n && among (path made at) n.moment)

-- of the changes from the i-th on, none is it
abbrev pub HasNoneFrom : List ChangeNote → List Made → Sought → ℕ → ℕ → ℕ → Type 0
HasNoneFrom notes made what x at i = (j : ℕ) (n : ChangeNote) → i ≤ j → slice_get notes j ≡ Some n → is_found made what x at n ≡ false

-- the i-th is it, at this moment, and none behind it
pub record IsLastFound (notes : List ChangeNote) (made : List Made) (what : Sought) (x at moment : ℕ) : Type 0 where
  pub place : ℕ
  pub note : ChangeNote
  pub there : slice_get notes place ≡ Some note
  pub at_moment : note.moment ≡ moment
  pub found : is_found made what x at note ≡ true
  pub last : HasNoneFrom notes made what x at (suc place)

abbrev pub TellsLast : List ChangeNote → List Made → Sought → ℕ → ℕ → Option ℕ → Type 0
TellsLast notes made what x at (Some moment) = IsLastFound notes made what x at moment
TellsLast notes made what x at None = HasNoneFrom notes made what x at 0
