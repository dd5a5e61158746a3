-- So many rows are copied as stand before the next key.
use Rattle.std.proofs.Common.{◌≡◌, ◌-◌, map, length, take}
use Rattle.std.specs.List.{slice_get}
use Rattle.zt_queries.proofs.row_list.rows_of.Given as goal

abbrev pub invariant-loop-next : goal.invariant-loop-next
invariant-loop-next l = record {
  copied : l.rows.items ≡ take (length l.rows.items) l.store.state.rows;
  following : l.next ≡ slice_get (map (λ e. e.0) l.store.state.rows) (length l.rows.items);
}

abbrev pub decreases-loop-next : goal.decreases-loop-next
decreases-loop-next l = length l.store.state.rows - length l.rows.items
