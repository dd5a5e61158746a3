use Rattle.zt_store.proofs.TakenRows.{IsFilling}
use Rattle.zt_store.proofs.kept_rows.take_into.Given as goal

abbrev pub invariant-loop-place : goal.invariant-loop-place
invariant-loop-place l = IsFilling l.fn.firsts.rows l.order l.place l.keys l.rows l.firsts.rows
