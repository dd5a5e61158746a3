-- Handles of a process put one behind another.
use Rattle.std.specs.Prelude.{◌≡◌, ℕ, ◌<◌, ◌-◌, ◌^◌, true, List, [], ◌∷◌, ◌++◌, Option, None, Some}
use Rattle.std.specs.List.{AllByRecursion}
use Rattle.std.specs.List.Sorted.{IsStrictlyIncreasing}
use Rattle.zt_bits.specs.declared.kinds.Kind.{Kind}
use Rattle.zt_rows.specs.declared.rows.Held.{Held}
use Rattle.zt_rows.specs.Reads.{entry}
use Rattle.zt_rows.specs.State.{State}
use Rattle.zt_rows.specs.Tests.{among, exists, kind_at}
use Rattle.zt_index.specs.Chains.{IsShortOf}
use Rattle.zt_look.specs.declared.handle_list.Handle.{Handle}
use Rattle.zt_look.specs.HandleList.{IsHandleOf, values}

-- what the entries of the process name is there
abbrev pub NamesObjects : State → ℕ → Type 0
NamesObjects S p = (h : ℕ) (held : Held) → entry S p h ≡ Some held → exists S held.koid ≡ true

-- the handle of the value, if there is an entry and the object that it names
abbrev pub handle_by : ℕ → Option Held → Option Kind → List Handle
handle_by h (Some held) (Some kind) = record { value = h; koid = held.koid; kind = kind; rights = held.rights } ∷ []
handle_by h _ _ = []

abbrev pub held_koid : Option Held → ℕ
held_koid (Some held) = held.koid
held_koid None = 0

-- the list with the handle of this value behind the others
abbrev pub with_handle : State → ℕ → ℕ → List Handle → List Handle
with_handle S p h list = list ++ handle_by h (entry S p h) (kind_at S (held_koid (entry S p h)))

-- the list has the entries of the process before the next one
pub record AreHandlesBefore (S : State) (p : ℕ) (next : Option ℕ) (list : List Handle) : Type 0 where
  pub each : AllByRecursion (IsHandleOf S p) list
  pub rising : IsStrictlyIncreasing (values list)
  pub short : AllByRecursion (IsShortOf (λ a b. a < b) next) (values list)
  pub all : (h : ℕ) (held : Held) → IsShortOf (λ a b. a < b) next h → entry S p h ≡ Some held → among (values list) h ≡ true

-- how many values there can be from the next one on
abbrev pub left_from : Option ℕ → ℕ
left_from None = 0
left_from (Some h) = 2 ^ 32 - h
