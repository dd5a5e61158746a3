-- What an object loses by a call while it stays. A test says by which rows it had that: a name of the object (Released), or a live
-- child of it (LostChild). This project's own.
use Rattle.std.specs.Prelude.{ℕ, Bool, not, ◌&&◌, List, Option, Some}
use Rattle.std.specs.List.{list_any}
use Rattle.zt_rows.specs.declared.rows.Row.{Row}
use Rattle.zt_rows.specs.State.{State, row}
use Rattle.zt_rows.specs.Tests.{exists}
use Rattle.zt_history.specs.Tree.{Made, parent_at, state_at}

-- the object is there after, and under some key a row passed the test before and none does after
abbrev pub loses : (ℕ → Option Row → Bool) → ℕ → State → State → Bool
loses stands x S T = exists T x && list_any (λ e. stands x (Some e.1) && not (stands x (row T e.0))) S.rows

-- the object lost such a row by the call that made the moment, and stayed
abbrev pub loses_at : (ℕ → Option Row → Bool) → ℕ → List Made → ℕ → Bool
loses_at stands x made m = loses stands x (state_at made (parent_at made m)) (state_at made m)
