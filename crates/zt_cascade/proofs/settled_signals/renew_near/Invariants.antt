use Rattle.std.proofs.Common.{◌≡◌, take}
use Rattle.std.specs.List.{fold}
use Rattle.zt_signals.specs.ObjectSignals.{refreshed_object}
use Rattle.zt_store.specs.ProofsOnly.StepView.{IsAhead}
use Rattle.zt_cascade.proofs.settled_signals.renew_near.Given as goal

abbrev pub invariant-loop-koid : goal.invariant-loop-koid
invariant-loop-koid l = record {
  ahead : IsAhead l.fn.step l.step;
  current : l.step.current ≡ fold refreshed_object l.fn.step.current (take l.koid-index l.koid-items);
}
