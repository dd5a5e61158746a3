-- The numbers so far.
use Rattle.std.proofs.Common.{◌≡◌}
use Rattle.zt_import.specs.Trails.{below}
use Rattle.zt_import.proofs.order.numbers_below.Given as goal

abbrev pub invariant-loop-number : goal.invariant-loop-number
invariant-loop-number l = l.numbers.items ≡ below l.number
