use Rattle.std.proofs.Common.{◌≡◌, ◌+◌, ◌++◌, drop}
use Rattle.zt_rows.specs.Tests.{next_at}
use Rattle.zt_rows.specs.Handles.{caller, install_all, values_from}
use Rattle.zt_store.specs.Places.{Keeps}
use Rattle.zt_calls.proofs.received_message.install_all.Given as goal

abbrev pub invariant-loop-held : goal.invariant-loop-held
invariant-loop-held l = record {
  next : next_at l.step.current l.process ≡ next_at l.fn.step.current l.process + l.held-index;
  values : l.values.items ++ values_from (next_at l.step.current l.process) (drop l.held-index l.handles) ≡ values_from (next_at l.fn.step.current l.process) l.handles;
  rest : install_all l.process (caller l.step.current l.process) (drop l.held-index l.handles) l.step.current ≡ install_all l.process (caller l.fn.step.current l.process) l.handles l.fn.step.current;
  beginning : l.step.beginning ≡ l.fn.step.beginning;
  kept : Keeps l.fn.step.places l.step.places;
}
