-- The row at the moment up to which the path is still to be gone back.
use Rattle.std.proofs.Common.{◌≡◌, ◌≤◌, take}
use Rattle.std.specs.Option.{option_copied}
use Rattle.zt_rows.specs.State.{row}
use Rattle.zt_history.specs.Tree.{end_of, state_at}
use Rattle.zt_queries.proofs.path_pair.row_at_fork.Given as goal

abbrev pub invariant-loop-i : goal.invariant-loop-i
invariant-loop-i l = record {
  above : l.ways.shared ≤ l.i;
  stands : option_copied l.row ≡ row (state_at l.history.tree.made (end_of (take l.i l.ways.here.items))) l.key;
}
