-- The element before the moment's number, of the list of the records.
use Rattle.std.proofs.Common.{◌≡◌, suc, ◌-◌, arith}
use Rattle.zt_history.proofs.NodeLaws.{record-listed}
use Rattle.zt_history.proofs.moments.Moments.change.Goals as goal

pub returns : goal.returns
returns c =
    let place : c.args.moment ≡ suc (c.moment.inside.0 - 1) = omega (arith, c.moment.view_is, c.if-moment-eq0.false) in
    record-listed c.self.inside.nodes.list c.self.inside.records.items c.deref.result.now c.args.self.now (c.moment.inside.0 - 1) c.args.moment c.get.result c.get.ensures.lookup c.deref.ensures.value c.self.view_is place
