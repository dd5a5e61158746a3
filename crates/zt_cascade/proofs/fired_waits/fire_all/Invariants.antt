use Rattle.std.proofs.Common.{◌≡◌, take}
use Rattle.std.specs.List.{fold}
use Rattle.zt_store.specs.ProofsOnly.StepView.{IsAhead}
use Rattle.zt_cascade.specs.ProofsOnly.RaisedWaits.{fire_number}
use Rattle.zt_cascade.proofs.fired_waits.fire_all.Given as goal

abbrev pub invariant-loop-number : goal.invariant-loop-number
invariant-loop-number l = record {
  ahead : IsAhead l.fn.step l.step;
  current : l.step.current ≡ fold (fire_number l.fn.step.beginning) l.fn.step.current (take l.number-index l.number-items);
}
