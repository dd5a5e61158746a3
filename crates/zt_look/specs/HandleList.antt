-- The handles of a process in a state, as a list. This project's own.
use Rattle.std.specs.Prelude.{◌≡◌, ℕ, true, List, map, Some}
use Rattle.std.specs.List.{AllByRecursion}
use Rattle.std.specs.List.Sorted.{IsStrictlyIncreasing}
use Rattle.zt_rows.specs.declared.rows.Held.{Held}
use Rattle.zt_rows.specs.Reads.{entry}
use Rattle.zt_rows.specs.State.{State}
use Rattle.zt_rows.specs.Tests.{among, kind_at}
use Rattle.zt_look.specs.declared.handle_list.Handle.{Handle}

-- the process holds so much of the object of this kind by the value
pub record IsHandleOf (S : State) (p : ℕ) (h : Handle) : Type 0 where
  pub held : entry S p h.value ≡ Some (record { koid = h.koid; rights = h.rights })
  pub kind : kind_at S h.koid ≡ Some h.kind

abbrev pub values : List Handle → List ℕ
values list = map (λ h. h.value) list

-- the list has the entries of the process and no others, each once, by rising value
pub record AreHandles (S : State) (p : ℕ) (list : List Handle) : Type 0 where
  pub each : AllByRecursion (IsHandleOf S p) list
  pub rising : IsStrictlyIncreasing (values list)
  pub all : (h : ℕ) (held : Held) → entry S p h ≡ Some held → among (values list) h ≡ true
