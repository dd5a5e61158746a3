use Rattle.zt_rows.specs.declared.keys.RowKey.{RowKey}
use Rattle.zt_rows.specs.Room.{SuitsKey}
use Rattle.zt_rows.specs.State.{row}
use Rattle.zt_store.specs.ProofsOnly.StepView.{IsAhead}
use Rattle.zt_cascade.specs.ProofsOnly.RemovedObject.{IsPartly, weight}
use Rattle.zt_cascade.proofs.removed_rows.take_packets.Given as goal

abbrev pub invariant-loop-number : goal.invariant-loop-number
invariant-loop-number l = record {
  ahead : IsAhead l.fn.step l.step;
  partly : IsPartly l.port l.fn.step.current l.step.current;
  suited : (k : RowKey) → SuitsKey k (row l.step.current k);
}

abbrev pub decreases-loop-number : goal.decreases-loop-number
decreases-loop-number l = weight l.step.current
