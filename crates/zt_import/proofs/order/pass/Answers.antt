-- Two calls change their places.
use Rattle.std.proofs.Common.{rules, ◌≡◌, ◌+◌, ◌<◌, suc, true, length, get_or, arith}
use Rattle.std.specs.List.{swap}
use Rattle.zt_import.specs.Orders.{may_precede}
use Rattle.zt_import.proofs.OrderLaws.{order_swapped}
use Rattle.zt_import.proofs.order.pass.Goals as goal

pub returns : goal.returns
returns c = λ so.
    let next : c.args.place + 1 ≡ suc c.args.place = omega arith in
    let there : c.args.place + 1 < length c.args.numbers.now.items = search rules in
    let one : c.index.result.now ≡ get_or c.args.numbers.now.items (c.args.place + 1) c.index.result.now = search rules in
    let other : c.index-2.result.now ≡ get_or c.args.numbers.now.items c.args.place c.index-2.result.now = search rules in
    let may : true ≡ may_precede c.args.calls.now c.index.result.now c.index-2.result.now = search rules in
    let swapped : c.swap.new.self.items ≡ swap c.args.numbers.now.items c.args.place (c.args.place + 1) = c.swap.ensures.items in
    order_swapped c.args.calls.now c.args.numbers.now.items c.swap.new.self.items c.args.place (c.args.place + 1) c.index.result.now c.index-2.result.now
    next there one other may swapped so
