-- The row at the last place so far, and the last place so far at which there is the object.
use Rattle.std.proofs.Common.{◌≡◌, ◌≤◌, ◌<◌, ℕ, false}
use Rattle.std.specs.Option.{option_copied}
use Rattle.zt_rows.specs.declared.keys.RowKey.TheVariants as key
use Rattle.zt_rows.specs.State.{row}
use Rattle.zt_rows.specs.Tests.{exists}
use Rattle.zt_queries.specs.ProofsOnly.FirstLeak.{state_after, is_sure}
use Rattle.zt_queries.proofs.leak_graph.unleaked_signs.last_there.Given as goal

abbrev pub invariant-loop-i : goal.invariant-loop-i
invariant-loop-i l = record {
  stands : option_copied l.row ≡ row (state_after l.history.tree.made l.ways.way.items l.i) (key.Object l.fn.koid);
  there : l.there ≡ exists (state_after l.history.tree.made l.ways.way.items l.place) l.fn.koid;
  sure : l.sure ≡ is_sure (row (state_after l.history.tree.made l.ways.way.items l.place) (key.Object l.fn.koid)) l.fn.koid;
  gone : (j : ℕ) → l.place < j → j ≤ l.i → exists (state_after l.history.tree.made l.ways.way.items j) l.fn.koid ≡ false;
  low : l.ways.shared ≤ l.place;
  high : l.place ≤ l.i;
  beyond : l.there ≡ false → l.place ≡ l.ways.shared;
}
