use Rattle.zt_store.proofs.Undoing.{IsUndone}
use Rattle.zt_store.proofs.exchanged_rows.undo.Given as goal

abbrev pub invariant-loop-left : goal.invariant-loop-left
invariant-loop-left l = IsUndone l.fn.store.state l.fn.records l.left l.store.state l.records l.store.places l.fn.store.places

abbrev pub decreases-loop-left : goal.decreases-loop-left
decreases-loop-left l = l.left
