-- Removal one object at a time, seen from the state that it began with. This project's own form.
use Rattle.std.specs.Prelude.{◌≡◌, ℕ, Bool, true, ◌==◌, List, Some}
use Rattle.std.specs.List.{list_any}
use Rattle.zt_rows.specs.declared.rows.Held.{Held}
use Rattle.zt_rows.specs.Contents.{MessageContent}
use Rattle.zt_rows.specs.State.{State}
use Rattle.zt_rows.specs.Reads.{message}
use Rattle.zt_rows.specs.Tests.{link_at}
use Rattle.zt_rows.specs.Collect.{without}
use Rattle.zt_rows.specs.Justified.{Justified}
use Rattle.std.specs.Prelude.{List, Some}

-- T is S without objects that went one at a time, each without support once those before it were gone
abbrev pub IsOnTheWay : State → State → Type 0
IsOnTheWay S T = (gone : ℕ → Bool) × (T ≡ without S gone) × Justified S gone

-- a handle in the list names it
abbrev pub is_named : List Held → ℕ → Bool
is_named handles x = list_any (λ held. held.koid == x) handles

-- what x may release when it goes: what a handle in its queue names, and what its link names
pub data IsReleased (S : State) (x y : ℕ) : Type 0 where
  by_message : (n : ℕ) (m : MessageContent) → message S x n ≡ Some m → is_named m.handles y ≡ true → IsReleased S x y
  by_link : link_at S x ≡ y → IsReleased S x y
