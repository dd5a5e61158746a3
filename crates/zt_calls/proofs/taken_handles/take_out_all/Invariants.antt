use Rattle.std.proofs.Common.{◌≡◌, drop}
use Rattle.zt_rows.specs.Tests.{among}
use Rattle.zt_rows.specs.Handles.{take_out_all}
use Rattle.zt_rows.specs.Consistent.{IsSound}
use Rattle.zt_store.specs.Places.{Keeps}
use Rattle.zt_calls.proofs.taken_handles.take_out_all.Given as goal

abbrev pub invariant-loop-value : goal.invariant-loop-value
invariant-loop-value l = record {
  rest : take_out_all l.step.current l.process (among (drop l.value-index l.values)) ≡ take_out_all l.fn.step.current l.process (among l.values);
  sound : IsSound l.step.current;
  beginning : l.step.beginning ≡ l.fn.step.beginning;
  kept : Keeps l.fn.step.places l.step.places;
}
