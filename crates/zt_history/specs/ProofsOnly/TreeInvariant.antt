-- What a history keeps: a store at one of the moments, and for each moment the record by which the store goes over the
-- call that made it, back or forth. Used by proofs only.
use Rattle.std.specs.Prelude.{◌≡◌, ℕ, suc, ◌≤◌, true, List, length, Option, slice_get}
use Rattle.zt_rows.specs.declared.keys.RowKey.{RowKey}
use Rattle.zt_rows.specs.declared.rows.Row.{Row}
use Rattle.zt_store.specs.StoreView.{Stored}
use Rattle.zt_store.specs.RecordRows.{all_fit}
use Rattle.zt_history.specs.Tree.{Made, state_at}
use Rattle.zt_history.specs.TreeInvariant.{recorded_at}

-- a store at the position, and records that fit it: moment i + 1 has the i-th
pub record IsHistory (made : List Made) (position : ℕ) (store : Stored) (records : List (List (RowKey × Option Row))) : Type 0 where
  pub within : position ≤ length made
  pub here : store.state ≡ state_at made position
  pub many : length records ≡ length made
  pub each : (i : ℕ) → slice_get records i ≡ recorded_at made position (suc i)
  pub fit : all_fit store.places records ≡ true
