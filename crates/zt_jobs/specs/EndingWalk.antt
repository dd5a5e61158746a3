-- The walk over what ends with a process or job: from parent to child, and from a process to the job that it is
-- critical to. Of each process or job of each state it finds one set. This project's own form.
use Rattle.std.specs.Prelude.{◌≡◌, ℕ, Bool, true, not, ◌==◌, ◌&&◌, ◌||◌, Option, None, Some}
use Rattle.zt_rows.specs.declared.rows.ObjectRow.{ObjectRow}
use Rattle.zt_rows.specs.State.{State}
use Rattle.zt_rows.specs.Reads.{object}
use Rattle.zt_rows.specs.Tests.{link_at}
use Rattle.zt_rows.specs.End.{is_live_task}
use Rattle.zt_store.specs.KoidSets.{only}

abbrev pub object_critical : Option ObjectRow → ℕ
object_critical (Some o) = o.critical
object_critical None = 0

-- the job that it is critical to, 0 for none
abbrev pub critical_at : State → ℕ → ℕ
critical_at S x = object_critical (object S x)

-- it is a live process or job with a parent, and its parent passes the test
abbrev pub is_child_in : State → (ℕ → Bool) → ℕ → Bool
is_child_in S passes x = is_live_task (object S x) && (not (link_at S x == 0) && passes (link_at S x))

-- y is critical to x
abbrev pub is_critical_to : State → ℕ → ℕ → Bool
is_critical_to S y x = not (critical_at S y == 0) && (critical_at S y == x)

-- x is a live child of y, or the job that y is critical to
abbrev pub ends_next : State → ℕ → ℕ → Bool
ends_next S y x = is_child_in S (only y) x || is_critical_to S y x

-- the walk, begun at the task, finds this set: it has the task and what ends next to its members, and each set that
-- has these has it whole
pub record IsWalkable (S : State) (task : ℕ) (ending : ℕ → Bool) : Type 0 where
  pub begun : ending task ≡ true
  pub closed : (y x : ℕ) → ending y ≡ true → ends_next S y x ≡ true → ending x ≡ true
  pub least : (found : ℕ → Bool) → found task ≡ true → ((y x : ℕ) → found y ≡ true → ends_next S y x ≡ true → found x ≡ true) → (x : ℕ) → ending x ≡ true → found x ≡ true

-- the set without the process that ends by itself
abbrev pub all_but : ℕ → (ℕ → Bool) → ℕ → Bool
all_but process ending x = ending x && not (x == process)
