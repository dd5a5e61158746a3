-- Moments as they are kept, each with its depth, and as they are seen: how each was made, and the records.
-- Used by proofs only.
use Rattle.std.specs.Prelude.{◌≡◌, ℕ, zero, suc, ◌≤◌, Bool, true, List, map, length, set, Option, Some, None, slice_get}
use Rattle.zt_rows.specs.declared.keys.RowKey.{RowKey}
use Rattle.zt_rows.specs.declared.rows.Row.{Row}
use Rattle.zt_rows.specs.declared.calls.Call.{Call}
use Rattle.zt_rows.specs.Change.{exchange}
use Rattle.zt_rows.specs.State.{State}
use Rattle.zt_rows.specs.Step.{step}
use Rattle.zt_store.specs.Places.{fits}
use Rattle.zt_store.specs.StoreView.{Stored}
use Rattle.zt_history.specs.declared.moments.Shortcut.{Shortcut}
use Rattle.zt_history.specs.Tree.{Made, path}
use Rattle.zt_history.specs.HistoryRefusals.{most_moments}
use Rattle.zt_history.specs.TreeInvariant.{Falls}
use Rattle.zt_history.specs.ProofsOnly.Forks.{AreShortcuts}
use Rattle.zt_history.specs.ProofsOnly.StoredNodes.{MomentNode}

abbrev pub made_as : MomentNode → Made
made_as n = record { parent = n.parent; process = n.process; call = n.call; reply = n.reply }

abbrev pub made_in : List MomentNode → List Made
made_in nodes = map made_as nodes

-- the moments and their records, and whether one more takes no memory
pub record Chronicle : Type 0 where
  pub made : List Made
  pub records : List (List (RowKey × Option Row))
  pub room : Bool

-- the record of a moment; none of the opening, nor beyond the last
abbrev pub record_at : List (List (RowKey × Option Row)) → ℕ → Option (List (RowKey × Option Row))
record_at records zero = None
record_at records (suc i) = slice_get records i

-- each moment's parent is earlier, and its depth is the length of its path
pub record AreNodes (nodes : List MomentNode) : Type 0 where
  pub few : length nodes ≤ most_moments
  pub falls : Falls (made_in nodes)
  pub deep : (i : ℕ) (n : MomentNode) → slice_get nodes i ≡ Some n → n.depth ≡ length (path (made_in nodes) (suc i))

-- such nodes, and beside them the lists of their shortcuts and of their records
pub record AreListed (nodes : List MomentNode) (shortcuts : List Shortcut) (records : List (List (RowKey × Option Row))) : Type 0 where
  pub stand : AreNodes nodes
  pub many : length shortcuts ≡ length nodes
  pub ways : AreShortcuts (made_in nodes) shortcuts
  pub recorded : length records ≡ length nodes

-- what a call makes at a moment, in whose state the store stands
abbrev pub run_at : ℕ → State → ℕ → Call → Made
run_at m S process call = record { parent = m; process = process; call = call; reply = (step S process call).1 }

-- the i-th record exchanged its rows with the store's
pub record IsTurned (old new : Chronicle) (before after : Stored) (i : ℕ) : Type 0 where
  pub made : new.made ≡ old.made
  pub was : List (RowKey × Option Row)
  pub kept : List (RowKey × Option Row)
  pub at : slice_get old.records i ≡ Some was
  pub exchanged : ◌≡◌ {A = State × List (RowKey × Option Row)} (after.state, kept) (exchange before.state was)
  pub records : new.records ≡ set old.records i kept
  pub places : after.places ≡ before.places
  pub fit : fits after.places kept ≡ true
