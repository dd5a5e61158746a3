-- The calls so far are those of the parts so far.
use Rattle.std.proofs.Common.{take}
use Rattle.zt_logs.specs.ProofsOnly.ReadLines.{AddsAhead}
use Rattle.zt_logs.proofs.logged_parts.push_ahead.Given as goal

abbrev pub invariant-loop-ahead : goal.invariant-loop-ahead
invariant-loop-ahead l = AddsAhead l.head.line l.head.count l.status (take l.ahead l.parts) l.fn.calls.items l.calls.items
