-- The calls are in such an order where they were before.
use Rattle.zt_import.specs.Orders.{IsOrder}
use Rattle.zt_import.proofs.order.move_ahead.Given as goal

abbrev pub invariant-loop-place : goal.invariant-loop-place
invariant-loop-place l = IsOrder l.calls l.fn.numbers.items → IsOrder l.calls l.numbers.items

abbrev pub decreases-loop-place : goal.decreases-loop-place
decreases-loop-place l = l.place
