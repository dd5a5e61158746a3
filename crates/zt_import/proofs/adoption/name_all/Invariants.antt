-- The processes are those before.
use Rattle.std.proofs.Common.{◌≡◌}
use Rattle.zt_import.proofs.adoption.name_all.Given as goal

abbrev pub invariant-loop-place : goal.invariant-loop-place
invariant-loop-place l = l.numbers.processes ≡ l.fn.numbers.processes
