-- The moments so far are those of the calls so far.
use Rattle.std.proofs.Common.{◌≡◌}
use Rattle.zt_rows.specs.CallsInARow.{moments_from}
use Rattle.zt_text.proofs.row_of_calls.moments_of.Given as goal

abbrev pub invariant-calls : goal.invariant-calls
invariant-calls l = l.moments.items ≡ moments_from 0 l.yielded
