-- What holds of a record: its keys in their order, each once, and as many rows, which suit them. Used by proofs only.
use Rattle.std.specs.Prelude.{◌≡◌, T, List, length, Option}
use Rattle.std.specs.FinMap.Entries as entries
use Rattle.std.specs.List.{zip}
use Rattle.zt_rows.specs.declared.keys.RowKey.{RowKey}
use Rattle.zt_rows.specs.declared.rows.Row.{Row}
use Rattle.zt_rows.specs.Keys.{rowkey_cmp}
use Rattle.zt_store.specs.ProofsOnly.KeptRows.{under_keys}
use Rattle.zt_store.specs.ProofsOnly.StoreView.{AllSuit}

pub record IsRecord (ks : List RowKey) (rs : List (Option Row)) : Type 0 where
  pub even : length rs ≡ length ks
  pub suited : AllSuit (zip ks rs)
  pub ordered : T (entries.is_sorted rowkey_cmp (zip ks rs))

-- as many slots as keys, and the keys with what the slots stand for under them are a record
pub record IsSlotRecord (ks : List RowKey) (rs : List Row) : Type 0 where
  pub even : length rs ≡ length ks
  pub recorded : IsRecord ks (under_keys ks rs)
