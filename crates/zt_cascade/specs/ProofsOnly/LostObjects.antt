-- What may have lost a support by a row that a step put. This project's own form. Used by proofs only.
use Rattle.std.specs.Prelude.{◌≡◌, ◌⊎◌, ℕ, true, List, [], ◌∷◌, Option, None, Some}
use Rattle.zt_rows.specs.declared.keys.RowKey.{RowKey}
use Rattle.zt_rows.specs.declared.keys.RowKey.TheVariants as key
use Rattle.zt_rows.specs.declared.rows.Held.{Held}
use Rattle.zt_rows.specs.declared.rows.ObjectRow.{ObjectRow}
use Rattle.zt_rows.specs.declared.rows.Row.{Row}
use Rattle.zt_rows.specs.declared.rows.Row.TheVariants as rows
use Rattle.zt_rows.specs.State.{State, row}
use Rattle.zt_rows.specs.Reads.{object}
use Rattle.zt_rows.specs.Collect.{goes}
use Rattle.zt_rows.specs.Tests.{among}
use Rattle.zt_store.specs.StepView.{Stepping, listed}
use Rattle.zt_cascade.specs.OneByOne.{is_named}

-- the object is in the list, if it goes
abbrev pub IsListedFree : State → ℕ → List ℕ → Type 0
IsListedFree S x list = goes S x ≡ true → among list x ≡ true

-- two rows of an object by which it is kept alike, and keeps its parent alike
pub record AreKept (o p : ObjectRow) : Type 0 where
  pub kind : p.kind ≡ o.kind
  pub life : p.life ≡ o.life
  pub link : p.link ≡ o.link

-- the object is there, and its rows then and now are kept alike
abbrev pub SupportsAlike : ObjectRow → Option ObjectRow → Type 0
SupportsAlike o (Some p) = AreKept o p
SupportsAlike o None = ⊥

-- of the object, and of the link that it had, what goes is in the list, unless its rows are kept alike
abbrev pub HasLostObject : State → ℕ → Option ObjectRow → List ℕ → Type 0
HasLostObject T x (Some o) list = SupportsAlike o (object T x) ⊎ (IsListedFree T x list × IsListedFree T o.link list)
HasLostObject T x None list = IsListedFree T x list

-- what an entry holds, and what the handles of a message hold
abbrev pub named_by : Option Row → List Held
named_by (Some (rows.Entry held)) = held ∷ []
named_by (Some (rows.Msg m)) = m.handles
named_by _ = []

-- for a row that was in B and is in T as it may be, what may have lost a support by it is in the list: an object and its link
-- of the beginning, and what an entry or a message named
abbrev pub HasLost : State → State → RowKey → List ℕ → Type 0
HasLost B T (key.Object x) list = HasLostObject T x (object B x) list
HasLost B T k list = (y : ℕ) → is_named (named_by (row B k)) y ≡ true → among list y ≡ true

-- of all keys that were put in the step
abbrev pub HasAllLost : Stepping → List ℕ → Type 0
HasAllLost s list = (k : RowKey) → listed s.touched k ≡ true → HasLost s.beginning s.current k list
