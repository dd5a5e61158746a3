-- The states along a path, the place from which on an object is leaked, and signs by which a row or a record tells that it
-- is not. This project's own. Used by proofs only.
use Rattle.std.specs.Prelude.{◌≡◌, ℕ, ◌≤◌, ◌<◌, ◌+◌, Bool, true, false, ◌==◌, ◌||◌, List, length, take, Option, None, Some}
use Rattle.zt_bits.specs.declared.kinds.Kind.{Kind}
use Rattle.zt_bits.specs.declared.kinds.Kind.TheVariants as kind
use Rattle.zt_rows.specs.declared.keys.RowKey.{RowKey}
use Rattle.zt_rows.specs.declared.keys.RowKey.TheVariants as key
use Rattle.zt_rows.specs.declared.rows.Held.{Held}
use Rattle.zt_rows.specs.declared.rows.ObjectRow.{ObjectRow}
use Rattle.zt_rows.specs.declared.rows.Row.{Row}
use Rattle.zt_rows.specs.State.{State, row}
use Rattle.zt_rows.specs.Reads.{as_object, as_entry, is_live_process, object, on_object}
use Rattle.zt_rows.specs.Support.{root_job}
use Rattle.zt_rows.specs.Tests.{among, exists}
use Rattle.zt_history.specs.Tree.{Made, end_of, state_at}
use Rattle.zt_queries.specs.Leaks.{is_leaked}
use Rattle.zt_queries.specs.Reachability.{reached}
use Rattle.zt_queries.specs.ProofsOnly.RowHappenings.{row_over}

-- ---- places of a path

-- the state after so many moments of the path
abbrev pub state_after : List Made → List ℕ → ℕ → State
state_after made way i = state_at made (end_of (take i way))

-- the last place at which there is the object, or else the first
pub record IsLast (made : List Made) (way : List ℕ) (x place : ℕ) : Type 0 where
  pub within : place ≤ length way
  pub bottom : exists (state_after made way place) x ≡ false → place ≡ 0
  pub gone : (j : ℕ) → place < j → j ≤ length way → exists (state_after made way j) x ≡ false

-- by the call behind this place the object is leaked
pub record IsFirstLeak (made : List Made) (way : List ℕ) (x i : ℕ) : Type 0 where
  pub within : i < length way
  pub before : is_leaked (state_after made way i) x ≡ false
  pub after : is_leaked (state_after made way (i + 1)) x ≡ true

-- ---- signs that an object is not leaked

-- the object is not there, or it keeps itself: it is the root job, or a process that has not ended
abbrev pub keeps_itself : Option ObjectRow → ℕ → Bool
keeps_itself (Some o) x = (x == root_job) || is_live_process o
keeps_itself None x = true

abbrev pub is_sure : Option Row → ℕ → Bool
is_sure r x = keeps_itself (as_object r) x

-- the row is an entry that names x
abbrev pub entry_names : Option Held → ℕ → Bool
entry_names (Some held) x = held.koid == x
entry_names None x = false

abbrev pub names_object : RowKey → Option Row → ℕ → Bool
names_object (key.Entry p h) r x = entry_names (as_entry r) x
names_object key.Counters r x = false
names_object (key.Object y) r x = false
names_object (key.Msg e n) r x = false
names_object (key.Packet p n) r x = false
names_object (key.Wait n) r x = false

-- by what a record has under a key
abbrev pub names_in : RowKey → Option (Option Row) → ℕ → Bool
names_in k (Some r) x = names_object k r x
names_in k None x = false

-- the record has that there is no row
abbrev pub has_none : Option (Option Row) → Bool
has_none (Some None) = true
has_none _ = false

-- objects of the kind are gone when they end: it is neither a process nor a job
abbrev pub is_passing_kind : Kind → Bool
is_passing_kind kind.Job = false
is_passing_kind kind.Process = false
is_passing_kind _ = true

-- the record has an object of such a kind
abbrev pub is_passing_in : Option (Option Row) → Bool
is_passing_in (Some r) = on_object (λ o. is_passing_kind o.kind) (as_object r)
is_passing_in None = false

-- there is an object of such a kind that is not leaked
pub record PassesUnleaked (S : State) (x : ℕ) : Type 0 where
  pub passing : on_object (λ o. is_passing_kind o.kind) (object S x) ≡ true
  pub unleaked : is_leaked S x ≡ false

-- the record, if there is one, has rows of this state
pub record HoldsRowsOf (R : Option (List (RowKey × Option Row))) (S : State) : Type 0 where
  pub same : (k : RowKey) → row_over R k (row S k) ≡ row S k

-- the record shows that x is reached in a state of which it has rows
abbrev pub ShowsReached : List (RowKey × Option Row) → ℕ → Type 0
ShowsReached R x = (S : State) → HoldsRowsOf (Some R) S → among (reached S) x ≡ true

-- or that x is reached there where y is
abbrev pub ShowsReachedWith : List (RowKey × Option Row) → ℕ → ℕ → Type 0
ShowsReachedWith R x y = (S : State) → HoldsRowsOf (Some R) S → among (reached S) y ≡ true → among (reached S) x ≡ true
