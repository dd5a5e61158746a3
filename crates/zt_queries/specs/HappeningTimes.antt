-- At which moment of a path something happened to an object, as a history is asked for it: checks first. This project's
-- own.
use Rattle.std.specs.Prelude.{◌≡◌, ◌⊎◌, ℕ, ◌≤◌, Bool, nat_le, nat_lt, ◌&&◌, List, length, filter, Option, None, Result, Ok, Err}
use Rattle.std.specs.List.{last_or}
use Rattle.zt_rows.specs.declared.calls.Happening.{Happening}
use Rattle.zt_rows.specs.declared.calls.Happening.TheVariants as happening
use Rattle.zt_rows.specs.declared.refusals.Refusal.{Refusal}
use Rattle.zt_rows.specs.declared.refusals.Refusal.TheVariants as refusal
use Rattle.zt_rows.specs.State.{State}
use Rattle.zt_rows.specs.Reads.{counters}
use Rattle.zt_rows.specs.Support.{root_job}
use Rattle.zt_history.specs.HistoryRefusals.{check, ◌>>=◌}
use Rattle.zt_history.specs.Tree.{Made, Tree, last_moment, parent_at, path, state_at}
use Rattle.zt_queries.specs.Happenings.{made, ended, peer_closed, leaked}

-- what is asked, as a test of two states
abbrev pub happens : Happening → ℕ → State → State → Bool
happens happening.Made x S T = made x S T
happens happening.Ended x S T = ended x S T
happens happening.PeerClosed x S T = peer_closed x S T
happens happening.Leaked x S T = leaked x S T

-- it happens at this moment: between the state of its parent and its own
abbrev pub at_moment : (State → State → Bool) → List Made → ℕ → Bool
at_moment test made m = test (state_at made (parent_at made m)) (state_at made m)

-- on the path to each moment of the tree each of the four happens to an object at one moment at most
abbrev pub HappenOnce : Tree → Type 0
HappenOnce t = (what : Happening) (m x : ℕ) → m ≤ last_moment t → length (filter (at_moment (happens what x) t.made) (path t.made m)) ≤ 1

-- the last moment on the path to m at which it happens
unfoldable pub last_on : (State → State → Bool) → List Made → ℕ → Option ℕ
last_on test made m = last_or None (filter (at_moment test made) (path made m))

-- a number that some object up to this state has or had
abbrev pub is_known : State → ℕ → Bool
is_known S x = nat_le root_job x && nat_lt x (counters S).next_koid

-- the moment on the path to m at which it happened to the object, if any
abbrev pub when_on : Happening → List Made → ℕ → ℕ → Result (Option ℕ) Refusal
when_on what made m x = do
  _ ← check (is_known (state_at made m) x) refusal.NoObject
  Ok (last_on (happens what x) made m)

-- the refusal that may be given, by the result of the checks: the first that fails, or want of memory for the list of the path
abbrev pub IsRefusedWhen : {A : Type 0} → Result A Refusal → Refusal → Type 0
IsRefusedWhen (Ok _) given = given ≡ refusal.OutOfMemory
IsRefusedWhen (Err reason) given = (given ≡ reason) ⊎ (given ≡ refusal.OutOfMemory)
