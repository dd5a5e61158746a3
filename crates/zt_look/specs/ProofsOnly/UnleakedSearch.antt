-- The search for what is unleaked: what the rows of a state name, the least set that has all of it, and how a set of koids
-- grows to it. This project's own. Used by proofs only.
use Rattle.std.specs.Prelude.{◌≡◌, ◌⊎◌, ℕ, ◌+◌, ◌<◌, ◌≤◌, Bool, true, false, not, ◌==◌, ◌&&◌, ◌||◌, if◌then◌else◌, List, [], ◌∷◌, map, length, Option, None, Some}
use Rattle.std.specs.List.{list_any}
use Rattle.std.specs.Ordering.{nat_cmp}
use Rattle.std.specs.BTreeSet.{contains, btree_set_len}
use Rattle.zt_rows.specs.declared.keys.RowKey.{RowKey}
use Rattle.zt_rows.specs.declared.keys.RowKey.TheVariants as key
use Rattle.zt_rows.specs.declared.rows.Held.{Held}
use Rattle.zt_rows.specs.declared.rows.ObjectRow.{ObjectRow}
use Rattle.zt_rows.specs.declared.rows.Row.{Row}
use Rattle.zt_rows.specs.Contents.{MessageContent}
use Rattle.zt_rows.specs.Keys.{first_number, rowkey_eq}
use Rattle.zt_rows.specs.State.{State}
use Rattle.zt_rows.specs.Reads.{object, entry, message, is_live_process}
use Rattle.zt_rows.specs.Support.{root_job}
use Rattle.zt_rows.specs.Tests.{among, exists, is_task}
use Rattle.zt_store.specs.RecordLook.{held}
use Rattle.zt_look.specs.declared.unleaked_search.Search.{Search}

-- ---- what rows name

-- a job or a process names its parent, if it has one
abbrev pub parents : Option ObjectRow → List ℕ
parents (Some o) = if is_task o.kind && not (o.link == 0) then o.link ∷ [] else []
parents None = []

-- the root job and each live process name themselves
abbrev pub itself : ℕ → Option ObjectRow → List ℕ
itself x (Some o) = if (x == root_job) || is_live_process o then x ∷ [] else []
itself x None = []

abbrev pub koid_of : Option Held → List ℕ
koid_of (Some held) = held.koid ∷ []
koid_of None = []

abbrev pub koids : List Held → List ℕ
koids handles = map (λ h. h.koid) handles

abbrev pub koids_in : Option MessageContent → List ℕ
koids_in (Some m) = koids m.handles
koids_in None = []

-- what the row under a key names in any case
abbrev pub begun_by : State → RowKey → List ℕ
begun_by S (key.Object x) = itself x (object S x)
begun_by S (key.Entry p h) = koid_of (entry S p h)
begun_by S key.Counters = []
begun_by S (key.Msg e n) = []
begun_by S (key.Packet p n) = []
begun_by S (key.Wait n) = []

-- what it names where its object is known to be unleaked: the object itself, or the endpoint of a message
abbrev pub named_by : State → RowKey → List ℕ
named_by S (key.Object x) = parents (object S x)
named_by S (key.Msg e n) = koids_in (message S e n)
named_by S key.Counters = []
named_by S (key.Entry p h) = []
named_by S (key.Packet p n) = []
named_by S (key.Wait n) = []

-- the set has all that rows name
pub record HasAllNamed (S : State) (set : ℕ → Bool) : Type 0 where
  pub begun : (k : RowKey) (x : ℕ) → among (begun_by S k) x ≡ true → set x ≡ true
  pub named : (k : RowKey) (x : ℕ) → set (first_number k) ≡ true → among (named_by S k) x ≡ true → set x ≡ true

-- a row of y names x
abbrev pub IsNamedBy : State → ℕ → ℕ → Type 0
IsNamedBy S y x = (k : RowKey) × (first_number k ≡ y) × (among (named_by S k) x ≡ true)

-- a message at e that has a number from this one on and below that one names x
abbrev pub IsNamedBetween : State → ℕ → ℕ → ℕ → ℕ → Type 0
IsNamedBetween S e low high x = (n : ℕ) × (low ≤ n) × (n < high) × (among (koids_in (message S e n)) x ≡ true)

abbrev pub IsNamedAt : State → ℕ → ℕ → Type 0
IsNamedAt S e x = (n : ℕ) × (among (koids_in (message S e n)) x ≡ true)

-- the messages at e have numbers from the low one on and below the high one
abbrev pub AreBetween : State → ℕ → ℕ → ℕ → Type 0
AreBetween S e low high = (n : ℕ) (m : MessageContent) → message S e n ≡ Some m → (low ≤ n) × (n < high)

-- the object of the row under this key is in the set, or the row names it in any case
abbrev pub IsOwned : State → (ℕ → Bool) → RowKey → Type 0
IsOwned S set k = (set (first_number k) ≡ true) ⊎ (among (begun_by S k) (first_number k) ≡ true)

-- the row under this key names x, in any case or since its object is in the set
abbrev pub IsNamedHere : State → (ℕ → Bool) → RowKey → ℕ → Type 0
IsNamedHere S set k x = (among (begun_by S k) x ≡ true) ⊎ (IsOwned S set k × (among (named_by S k) x ≡ true))

-- ---- the other side of a call

-- the record has that there is no row
abbrev pub has_none : Option (Option Row) → Bool
has_none (Some None) = true
has_none (Some (Some r)) = false
has_none None = false

-- by the record the object is there after the call, if it was before
abbrev pub is_there_after : List (RowKey × Option Row) → ℕ → Bool
is_there_after R x = not (has_none (held R (key.Object x)))

abbrev pub is_object : ℕ → RowKey → Bool
is_object x (key.Object y) = y == x
is_object x key.Counters = false
is_object x (key.Entry p h) = false
is_object x (key.Msg e n) = false
is_object x (key.Packet p n) = false
is_object x (key.Wait n) = false

-- it is the key of the object, which is not there
abbrev pub is_gone_at : State → RowKey → ℕ → Bool
is_gone_at S k x = not (exists S x) && is_object x k

-- one of the keys is so
abbrev pub is_gone : State → List RowKey → ℕ → Bool
is_gone S ks x = not (exists S x) && list_any (is_object x) ks

-- ---- how the set grows

abbrev pub in_set : Search → ℕ → Bool
in_set s x = contains nat_cmp s.set x

abbrev pub in_found : Search → ℕ → Bool
in_found s x = contains nat_cmp s.found x

abbrev pub waits : Search → ℕ → Bool
waits s x = among s.waiting.items x

-- each koid that came into the set waits, and is found where it is there after the call
pub record Grows (R : List (RowKey × Option Row)) (old new : Search) : Type 0 where
  pub kept : (x : ℕ) → in_set old x ≡ true → in_set new x ≡ true
  pub came : (x : ℕ) → in_set new x ≡ true → (in_set old x ≡ true) ⊎ (waits new x ≡ true)
  pub still : (x : ℕ) → waits old x ≡ true → waits new x ≡ true
  pub known : (x : ℕ) → waits new x ≡ true → (waits old x ≡ true) ⊎ (in_set new x ≡ true)
  pub found : (x : ℕ) → in_found new x ≡ (in_found old x || (in_set new x && not (in_set old x) && is_there_after R x))
  pub sizes : length new.waiting.items + btree_set_len old.set ≤ length old.waiting.items + btree_set_len new.set

-- these came into the set, and no others
pub record Adds (which : ℕ → Type 0) (R : List (RowKey × Option Row)) (old new : Search) : Type 0 where
  pub grows : Grows R old new
  pub all : (x : ℕ) → which x → in_set new x ≡ true
  pub only : (x : ℕ) → in_set new x ≡ true → (in_set old x ≡ true) ⊎ which x

-- every closed set that has the one has the other
abbrev pub IsLeast : State → Search → Search → Type 0
IsLeast S old new = (f : ℕ → Bool) → HasAllNamed S f → ((x : ℕ) → in_set old x ≡ true → f x ≡ true) → (x : ℕ) → in_set new x ≡ true → f x ≡ true

abbrev pub has_key : List RowKey → RowKey → Bool
has_key ks k = list_any (rowkey_eq k) ks

-- what the rows under these keys name is in the set, but for what objects name that wait
pub record IsSeeded (S : State) (R : List (RowKey × Option Row)) (ks : List RowKey) (old new : Search) : Type 0 where
  pub grows : Grows R old new
  pub least : IsLeast S old new
  pub begun : (k : RowKey) (x : ℕ) → has_key ks k ≡ true → among (begun_by S k) x ≡ true → in_set new x ≡ true
  pub named : (k : RowKey) (x : ℕ) → has_key ks k ≡ true → in_set new (first_number k) ≡ true → among (named_by S k) x ≡ true
      → (in_set new x ≡ true) ⊎ (waits new (first_number k) ≡ true)

-- what objects of the set name is in it, but for those that wait
abbrev pub IsOpen : State → Search → Type 0
IsOpen S s = (k : RowKey) (x : ℕ) → in_set s (first_number k) ≡ true → among (named_by S k) x ≡ true
    → (in_set s x ≡ true) ⊎ (waits s (first_number k) ≡ true)

abbrev pub WaitInside : Search → Type 0
WaitInside s = (x : ℕ) → waits s x ≡ true → in_set s x ≡ true

abbrev pub AreThere : State → Search → Type 0
AreThere S s = (x : ℕ) → in_set s x ≡ true → exists S x ≡ true

-- some that waited were looked into
pub record IsSearched (S : State) (R : List (RowKey × Option Row)) (old new : Search) : Type 0 where
  pub kept : (x : ℕ) → in_set old x ≡ true → in_set new x ≡ true
  pub least : IsLeast S old new
  pub found : (x : ℕ) → in_found new x ≡ (in_found old x || (in_set new x && not (in_set old x) && is_there_after R x))
  pub opened : IsOpen S new
  pub inside : WaitInside new
