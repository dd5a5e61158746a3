-- The calls are in an order in which they may be run.
use Rattle.zt_import.specs.Orders.{IsOrder}
use Rattle.zt_import.proofs.order.ordered.Given as goal

abbrev pub invariant-loop-place : goal.invariant-loop-place
invariant-loop-place l = IsOrder l.calls l.numbers.items
