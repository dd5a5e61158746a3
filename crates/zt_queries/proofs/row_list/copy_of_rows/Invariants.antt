-- What is copied is what stands before the next row.
use Rattle.std.proofs.Common.{◌≡◌, take}
use Rattle.zt_queries.proofs.row_list.copy_of_rows.Given as goal

abbrev pub invariant-loop-key : goal.invariant-loop-key
invariant-loop-key l = l.copied.items ≡ take l.key-index l.rows
