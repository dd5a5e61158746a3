-- What is listed is the keys of the rows so far.
use Rattle.std.proofs.Common.{◌≡◌, map, take}
use Rattle.zt_queries.proofs.row_list.keys_among.Given as goal

abbrev pub invariant-loop-key : goal.invariant-loop-key
invariant-loop-key l = l.list.items ≡ map (λ e. e.0) (take l.key-index l.rows)
