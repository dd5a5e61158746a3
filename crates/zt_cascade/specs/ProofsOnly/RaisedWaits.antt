-- Waits that can have come to be met in a step: those made in it, those on entries that it changed, and those at
-- objects on which a signal rose; and firing them by number. This project's own form. Used by proofs only.
use Rattle.std.specs.Prelude.{◌≡◌, ◌⊎◌, ⊤, ◌<◌, ◌+◌, ◌^◌, ℕ, Bool, true, List, Option, None, Some}
use Rattle.zt_rows.specs.declared.keys.RowKey.{RowKey}
use Rattle.zt_rows.specs.declared.keys.RowKey.TheVariants as key
use Rattle.zt_rows.specs.declared.rows.Wait.{Wait}
use Rattle.zt_rows.specs.State.{State}
use Rattle.zt_rows.specs.Reads.{entry, object, wait}
use Rattle.zt_rows.specs.Settle.{fire, is_met}
use Rattle.zt_rows.specs.Tests.{among, has_all, next_at, signals_at}
use Rattle.zt_index.specs.Criteria.{is_at, is_on, waits_where}

-- each wait that passes is in the list
abbrev pub Lists : State → (Wait → Bool) → List ℕ → Type 0
Lists S test list = (n : ℕ) → waits_where S test n ≡ true → among list n ≡ true

-- the waits at an object that was there are in the list, unless no signal rose on it
abbrev pub HasCandidatesAt : State → State → ℕ → List ℕ → Type 0
HasCandidatesAt B T x list = (object B x ≡ None) ⊎ ((has_all (signals_at B x) (signals_at T x) ≡ true) ⊎ Lists T (is_at T x) list)

-- the wait of this number is in the list, if it is met in T, after B
abbrev pub ListsMet : State → State → ℕ → List ℕ → Type 0
ListsMet B T n list = (w : Wait) → wait T n ≡ Some w → is_met B T w ≡ true → among list n ≡ true

-- for a row that was in B and is in T as it may be, the waits that it can have satisfied are in the list: the wait itself,
-- those on an entry that was there, and those at an object that was there, unless no signal rose on it
abbrev pub HasCandidates : State → State → RowKey → List ℕ → Type 0
HasCandidates B T (key.Wait n) list = ListsMet B T n list
HasCandidates B T (key.Entry p h) list = (entry B p h ≡ None) ⊎ Lists T (is_on p h) list
HasCandidates B T (key.Object x) list = HasCandidatesAt B T x list
HasCandidates B T _ list = ⊤

-- each wait that is met in T, after B, is in the list
pub record HasMet (B T : State) (list : List ℕ) : Type 0 where
  pub each : (n : ℕ) (w : Wait) → wait T n ≡ Some w → is_met B T w ≡ true → among list n ≡ true

-- the later list has what the first one has
abbrev pub IsLonger : List ℕ → List ℕ → Type 0
IsLonger list later = (n : ℕ) → among list n ≡ true → among later n ≡ true

abbrev pub fire_if : State → State → ℕ → Option Wait → State
fire_if B T n (Some w) = fire B T (n, w)
fire_if B T n None = T

-- the wait of this number, if there is one, fires where it is met in T, after B
abbrev pub fire_number : State → State → ℕ → State
fire_number B T n = fire_if B T n (wait T n)

-- where the wait is met, its port has room for its packet
abbrev pub HasRoomFor : State → State → ℕ → Type 0
HasRoomFor B T n = (w : Wait) → wait T n ≡ Some w → is_met B T w ≡ true → next_at T w.port + 1 < 2 ^ 64
