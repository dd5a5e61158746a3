-- The row at the place, and that the object is at none behind it.
use Rattle.std.proofs.Common.{◌≡◌, ◌≤◌, ◌<◌, ℕ, false, length}
use Rattle.std.specs.Option.{option_copied}
use Rattle.zt_rows.specs.declared.keys.RowKey.TheVariants as key
use Rattle.zt_rows.specs.State.{row}
use Rattle.zt_rows.specs.Tests.{exists}
use Rattle.zt_queries.specs.ProofsOnly.FirstLeak.{state_after}
use Rattle.zt_queries.proofs.leak_graph.unleaked_signs.last_shared_there.Given as goal

abbrev pub invariant-loop-place : goal.invariant-loop-place
invariant-loop-place l = record {
  stands : option_copied l.row ≡ row (state_after l.history.tree.made l.ways.here.items l.place) (key.Object l.fn.koid);
  gone : (j : ℕ) → l.place < j → j ≤ length l.ways.way.items → exists (state_after l.history.tree.made l.ways.way.items j) l.fn.koid ≡ false;
  low : l.place ≤ l.ways.shared;
}

abbrev pub decreases-loop-place : goal.decreases-loop-place
decreases-loop-place l = l.place
