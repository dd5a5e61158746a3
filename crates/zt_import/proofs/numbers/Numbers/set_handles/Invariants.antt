-- The processes are those before.
use Rattle.std.proofs.Common.{◌≡◌}
use Rattle.zt_import.proofs.numbers.Numbers.set_handles.Given as goal

abbrev pub invariant-loop-place : goal.invariant-loop-place
invariant-loop-place l = l.self.processes ≡ l.fn.self.processes
