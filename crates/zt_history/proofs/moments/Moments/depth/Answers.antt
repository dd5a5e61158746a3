-- The depth of the node in the place before the moment's number; the opening's path is empty.
use Rattle.std.proofs.Common.{◌≡◌, suc, ◌-◌, Some, arith}
use Rattle.zt_history.proofs.NodeLaws.{depth-opening, node-depth, node-there}
use Rattle.zt_history.proofs.moments.Moments.depth.Goals as goal

pub returns-then-moment-eq0 : goal.returns-then-moment-eq0
returns-then-moment-eq0 c = depth-opening c.args.self.now.made c.args.moment (omega (arith, c.moment.view_is, c.if-moment-eq0.true))

pub unreachable-requires : goal.unreachable-requires
unreachable-requires c =
    let place : c.args.moment ≡ suc (c.moment.inside.0 - 1) = omega (arith, c.moment.view_is, c.if-moment-eq0.false) in
    node-there c.self.inside.nodes.list c.self.inside.records.items c.args.self.now (c.moment.inside.0 - 1) c.args.moment c.self.view_is place c.requires c.in-None.ensures

pub returns : goal.returns
returns c =
    let place : c.args.moment ≡ suc (c.moment.inside.0 - 1) = omega (arith, c.moment.view_is, c.if-moment-eq0.false) in
    node-depth c.self.inside.nodes.list c.self.inside.records.items c.args.self.now (c.moment.inside.0 - 1) c.args.moment c.self.view_is place c.self.invariant.stand (Some c.in-Some.depth) c.in-Some.ensures
