-- The order of the log is one in which its calls may be run.
use Rattle.std.proofs.Common.{rules, ◌≡◌, length, refl}
use Rattle.zt_import.specs.Trails.{below}
use Rattle.zt_import.proofs.OrderLaws.{order-first}
use Rattle.zt_import.proofs.order.ordered.Goals as goal

pub loop-place-init : goal.loop-place-init
loop-place-init c =
    let is : c.in_ok-numbers.numbers.items ≡ below (length c.args.calls.now) = search rules in
    order-first c.args.calls.now c.in_ok-numbers.numbers.items (length c.args.calls.now) refl is
