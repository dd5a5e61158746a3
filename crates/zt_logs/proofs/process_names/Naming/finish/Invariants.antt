-- The calls are as they were, but for their processes.
use Rattle.std.proofs.Common.{◌≡◌, map}
use Rattle.zt_logs.specs.ProofsOnly.ReadLines.{without_process}
use Rattle.zt_logs.proofs.process_names.Naming.finish.Given as goal

abbrev pub invariant-loop-used : goal.invariant-loop-used
invariant-loop-used l = (map without_process l.log.calls.items ≡ map without_process l.fn.log.calls.items) × (l.log.lines ≡ l.fn.log.lines)
