-- What shows in the row of an object, as a happening; the row on the other side of a call, as the call's record tells it;
-- and two paths with the moments that they share. This project's own. Used by proofs only.
use Rattle.std.specs.Prelude.{◌≡◌, ℕ, ◌≤◌, List, length, take, Option, None, Some, slice_get}
use Rattle.std.specs.Option.{unwrap_or}
use Rattle.zt_rows.specs.declared.calls.Happening.{Happening}
use Rattle.zt_rows.specs.declared.calls.Happening.TheVariants as happening
use Rattle.zt_rows.specs.declared.keys.RowKey.{RowKey}
use Rattle.zt_rows.specs.declared.rows.Row.{Row}
use Rattle.zt_store.specs.RecordLook.{held}
use Rattle.zt_history.specs.TreeInvariant.{IsTree}
use Rattle.zt_history.specs.Timeline.{Timeline, IsPath}
use Rattle.zt_history.specs.Tree.{path}
use Rattle.zt_history.specs.declared.row_happenings.RowHappening.{RowHappening}
use Rattle.zt_history.specs.declared.row_happenings.RowHappening.TheVariants as turn

-- what a row shows, as a happening
abbrev pub happening_of : RowHappening → Happening
happening_of turn.Made = happening.Made
happening_of turn.Ended = happening.Ended
happening_of turn.PeerClosed = happening.PeerClosed

-- ---- the row on the other side of a call: what the record has under the key, or else the same
abbrev pub row_over : Option (List (RowKey × Option Row)) → RowKey → Option Row → Option Row
row_over (Some R) k r = unwrap_or (held R k) r
row_over None k r = r

-- ---- two paths

-- both paths begin with so many moments that they share; behind these `way` ends, or the paths differ
pub record IsFork (way here : List ℕ) (shared : ℕ) : Type 0 where
  pub in_way : shared ≤ length way
  pub in_here : shared ≤ length here
  pub same : take shared way ≡ take shared here
  pub no_more : slice_get way shared ≡ slice_get here shared → length way ≤ shared

-- the path to a moment of a history, the path to its position, and how many moments they share
pub record AreWays (h : Timeline) (way here : List ℕ) (shared : ℕ) : Type 0 where
  pub tree : IsTree h.tree
  pub asked : IsPath h.tree.made way
  pub within : h.position ≤ length h.tree.made
  pub stood : here ≡ path h.tree.made h.position
  pub fork : IsFork way here shared
