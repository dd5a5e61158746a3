-- The objects whose derived signals can follow from a row that a step put: where a step changed rows, only these can have
-- other derived signals than the rows give. This project's own form. Used by proofs only.
use Rattle.std.specs.Prelude.{◌≡◌, ◌⊎◌, ⊤, ℕ, true, List, Option, None, Some}
use Rattle.zt_rows.specs.declared.keys.RowKey.{RowKey}
use Rattle.zt_rows.specs.declared.keys.RowKey.TheVariants as key
use Rattle.zt_rows.specs.declared.rows.ObjectRow.{ObjectRow}
use Rattle.zt_rows.specs.State.{State}
use Rattle.zt_rows.specs.Reads.{object}
use Rattle.zt_rows.specs.Settle.{renewed}
use Rattle.zt_rows.specs.Tests.{among, is_task}
use Rattle.zt_store.specs.StepView.{Stepping, listed}

-- two rows of an object that no derived signals tell apart
pub record AreAlike (o p : ObjectRow) : Type 0 where
  pub kind : p.kind ≡ o.kind
  pub life : p.life ≡ o.life
  pub link : p.link ≡ o.link
  pub signals : p.signals.0 ≡ o.signals.0

-- the object was there, and its rows then and now are alike
abbrev pub StaysAlike : Option ObjectRow → ObjectRow → Type 0
StaysAlike (Some o) p = AreAlike o p
StaysAlike None p = ⊥

-- its signals follow from no row, or it is in the list
abbrev pub HasItself : ℕ → ObjectRow → List ℕ → Type 0
HasItself x p list = ((S : State) → renewed S x p ≡ p.signals.0) ⊎ (among list x ≡ true)

-- the parent of a job or process is in the list
abbrev pub HasParent : Option ObjectRow → List ℕ → Type 0
HasParent (Some o) list = is_task o.kind ≡ true → among list o.link ≡ true
HasParent None list = ⊤

-- the object with its parent then and now is in the list, unless its rows are alike
abbrev pub HasNearObject : ℕ → Option ObjectRow → Option ObjectRow → List ℕ → Type 0
HasNearObject x then (Some p) list = StaysAlike then p ⊎ (HasItself x p list × HasParent then list × HasParent (Some p) list)
HasNearObject x then None list = HasParent then list

-- for a row that was in B and is in T as it may be, the objects near it are in the list: an object with its parent then
-- and now, and the endpoint of a message
abbrev pub HasNear : State → State → RowKey → List ℕ → Type 0
HasNear B T (key.Object x) list = HasNearObject x (object B x) (object T x) list
HasNear B T (key.Msg e n) list = among list e ≡ true
HasNear B T _ list = ⊤

-- what is near the keys that were put in the step
abbrev pub HasAllNear : Stepping → List ℕ → Type 0
HasAllNear s list = (k : RowKey) → listed s.touched k ≡ true → HasNear s.beginning s.current k list
