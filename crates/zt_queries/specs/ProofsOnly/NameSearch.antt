-- What keeps an object that is out of reach: names in messages, at endpoints whose names stand in messages in turn, and the live
-- jobs below a live job; and the last moment at which one of these lost a name or a child, or the object ended. This project's
-- own. Used by proofs only.
use Rattle.std.specs.Prelude.{◌≡◌, ◌≤◌, ◌==◌, ◌&&◌, ℕ, Bool, true, false, not, if◌then◌else◌, ⊤, List, [], ◌∷◌, ◌++◌, fold, count_by, length, take, max, Option, None, Some}
use Rattle.std.specs.List.{list_any}
use Rattle.zt_rows.specs.declared.calls.Happening.TheVariants as happening
use Rattle.zt_rows.specs.declared.keys.RowKey.{RowKey}
use Rattle.zt_rows.specs.declared.keys.RowKey.TheVariants as key
use Rattle.zt_rows.specs.declared.rows.ObjectRow.{ObjectRow}
use Rattle.zt_rows.specs.declared.rows.Row.{Row}
use Rattle.zt_rows.specs.declared.rows.Row.TheVariants as rows
use Rattle.zt_rows.specs.Keys.{rowkey_eq}
use Rattle.zt_rows.specs.State.{State, row}
use Rattle.zt_rows.specs.Reads.{is_job, is_live_process, names, object, on_object}
use Rattle.zt_rows.specs.Settle.{is_child_process_of}
use Rattle.zt_rows.specs.Tests.{among, count_row}
use Rattle.zt_history.specs.Tree.{Made, state_at}
use Rattle.zt_history.specs.declared.row_happenings.RowHappening.TheVariants as turn
use Rattle.zt_history.specs.RowHappenings.{last_shown}
use Rattle.zt_index.specs.KoidCounts.{named_by}
use Rattle.zt_index.specs.ProofsOnly.KoidCounts.{total}
use Rattle.zt_queries.specs.declared.leak_graph.name_search.LeakTime.{LeakTime}
use Rattle.zt_queries.specs.declared.leak_graph.name_search.LeakTime.TheVariants as leak_time
use Rattle.zt_queries.specs.declared.leak_graph.name_search.FoundNames.{FoundNames}
use Rattle.zt_queries.specs.declared.leak_graph.name_search.FoundNames.TheVariants as found_names
use Rattle.zt_queries.specs.HappeningTimes.{happens, last_on}
use Rattle.zt_history.specs.Released.{last_released}
use Rattle.zt_history.specs.LostChild.{is_child_row, last_lost_child}

-- the object is there, and is neither a job nor a process that runs: nothing keeps it but what names it
abbrev pub is_passive : ObjectRow → Bool
is_passive o = not (is_job o.kind) && not (is_live_process o)

abbrev pub stands_passive : State → ℕ → Bool
stands_passive S x = on_object is_passive (object S x)

-- the key of a message that waits at one of these
abbrev pub waits_at : List ℕ → RowKey → Bool
waits_at ends (key.Msg e n) = among ends e
waits_at ends key.Counters = false
waits_at ends (key.Object y) = false
waits_at ends (key.Entry p h) = false
waits_at ends (key.Packet p n) = false
waits_at ends (key.Wait n) = false

-- all rows that name y are messages that wait at one of these
abbrev pub IsGuarded : State → List ℕ → ℕ → Type 0
IsGuarded S ends y = (k : RowKey) → names y (row S k) ≡ true → waits_at ends k ≡ true

-- beside what a message names the set has the endpoint at which it waits
abbrev pub HoldsEndpoints : State → (ℕ → Bool) → Type 0
HoldsEndpoints S set = (e n y : ℕ) → names y (row S (key.Msg e n)) ≡ true → set y ≡ true → set e ≡ true

-- beside a job the set has its live children
abbrev pub HoldsChildren : State → (ℕ → Bool) → Type 0
HoldsChildren S set = (z y : ℕ) → is_child_row y (row S (key.Object z)) ≡ true → set y ≡ true → set z ≡ true

-- each of these is in every such set that has x
abbrev pub AreAbove : State → ℕ → List ℕ → Type 0
AreAbove S x ends = (set : ℕ → Bool) → HoldsEndpoints S set → HoldsChildren S set → set x ≡ true → (y : ℕ) → among ends y ≡ true → set y ≡ true

-- the live children of y are among these
abbrev pub AreChildrenIn : State → List ℕ → ℕ → Type 0
AreChildrenIn S ends y = (z : ℕ) → is_child_row y (row S (key.Object z)) ≡ true → among ends z ≡ true

-- what keeps y are messages that wait at one of these, and live jobs among them
pub record IsHeldBy (S : State) (ends : List ℕ) (y : ℕ) : Type 0 where
  pub guarded : IsGuarded S ends y
  pub children : AreChildrenIn S ends y
  pub calm : count_row (is_child_process_of y) S ≡ 0

-- the object, with what keeps it and others of these, and nothing else keeps any of them
pub record IsNameSearch (S : State) (x : ℕ) (ends : List ℕ) : Type 0 where
  pub itself : among ends x ≡ true
  pub above : AreAbove S x ends
  pub held : (y : ℕ) → among ends y ≡ true → IsHeldBy S ends y

-- the later of two moments, of which there may be none
abbrev pub later : Option ℕ → Option ℕ → Option ℕ
later None b = b
later (Some a) None = Some a
later (Some a) (Some b) = Some (max a b)

-- the last moment on the path to m at which one of these lost a name
abbrev pub last_of_names : List Made → ℕ → List ℕ → Option ℕ
last_of_names made m ys = fold (λ best y. later best (last_released y made m)) None ys

-- or a live child
abbrev pub last_of_children : List Made → ℕ → List ℕ → Option ℕ
last_of_children made m ys = fold (λ best y. later best (last_lost_child y made m)) None ys

-- a name, or x ended
abbrev pub last_of_all : List Made → ℕ → ℕ → List ℕ → Option ℕ
last_of_all made m x ys = later (last_shown turn.Ended x made m) (last_of_names made m ys)

-- all names of x and of the endpoints above it are in messages at these, and one of them lost a name last at this moment
pub record IsLastOfNames (made : List Made) (m x : ℕ) (latest : Option ℕ) : Type 0 where
  pub ends : List ℕ
  pub search : IsNameSearch (state_at made m) x ends
  pub last : latest ≡ last_of_names made m ends

-- and one of them lost a live child last at that one
pub record IsLastOfBoth (made : List Made) (m x : ℕ) (named lost : Option ℕ) : Type 0 where
  pub ends : List ℕ
  pub search : IsNameSearch (state_at made m) x ends
  pub names : named ≡ last_of_names made m ends
  pub children : lost ≡ last_of_children made m ends

-- ---- what a search has found

-- there are more endpoints than before, and where those of before are above an object, with y among them, these are
pub record Widens (S : State) (y : ℕ) (old new : List ℕ) : Type 0 where
  pub rest : List ℕ
  pub whole : new ≡ old ++ rest
  pub above : (x : ℕ) → among old y ≡ true → AreAbove S x old → AreAbove S x new

-- the endpoint behind these, where it is not one of them
abbrev pub with_end : List ℕ → ℕ → List ℕ
with_end ends e = if among ends e then ends else ends ++ e ∷ []

-- how often a message names y
abbrev pub times_named : ℕ → Option Row → ℕ
times_named y (Some (rows.Msg m)) = count_by (λ held. held.koid == y) m.handles
times_named y _ = 0

-- the key is one of these
abbrev pub is_one : List RowKey → RowKey → Bool
is_one ks q = list_any (λ k. rowkey_eq k q) ks

-- beside the messages that were found, which wait at these endpoints, the rows name y at most so often
pub record IsNameCount (S : State) (y : ℕ) (ends : List ℕ) (messages : List RowKey) (left : ℕ) : Type 0 where
  pub others : State
  pub few : total (named_by y) others ≤ left
  pub same : (k : RowKey) → is_one messages k ≡ false → row others k ≡ row S k
  pub waiting : (k : RowKey) → is_one messages k ≡ true → waits_at ends k ≡ true

-- a name search before all of its objects were looked at: x is one of them, all are above x, and what keeps one of the first
-- `place` is messages at them and live jobs among them
pub record IsPartSearch (S : State) (x : ℕ) (ends : List ℕ) (place : ℕ) : Type 0 where
  pub within : place ≤ length ends
  pub itself : among ends x ≡ true
  pub above : AreAbove S x ends
  pub held : (y : ℕ) → among (take place ends) y ≡ true → IsHeldBy S ends y

-- what is told of the moment at which x was leaked is so
abbrev pub IsToldBy : List Made → ℕ → ℕ → LeakTime → Type 0
IsToldBy made at x (leak_time.Known found) = last_on (happens happening.Leaked x) made at ≡ found
IsToldBy made at x leak_time.Unknown = ⊤

-- what is found by the names of x is so
abbrev pub AreFound : List Made → ℕ → ℕ → FoundNames → Type 0
AreFound made m x (found_names.All named lost) = IsLastOfBoth made m x named lost
AreFound made m x (found_names.Told told) = IsToldBy made m x told
