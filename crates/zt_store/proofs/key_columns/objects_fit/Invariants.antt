use Rattle.std.proofs.Common.{◌≡◌, ℕ, ◌<◌, Some}
use Rattle.zt_rows.specs.declared.rows.ObjectRow.{ObjectRow}
use Rattle.zt_rows.specs.Reads.{object}
use Rattle.zt_rows.specs.Room.{NextFits}
use Rattle.zt_store.proofs.key_columns.objects_fit.Given as goal

-- the objects so far fit
abbrev pub invariant-loop-koid : goal.invariant-loop-koid
invariant-loop-koid l = (x : ℕ) (o : ObjectRow) → x < l.koid → object l.cells.state x ≡ Some o → NextFits o.kind o.next
