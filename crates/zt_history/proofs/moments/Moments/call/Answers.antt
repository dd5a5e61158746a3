-- As it is kept in the place before the moment's number.
use Rattle.std.proofs.Common.{◌≡◌, suc, ◌-◌, ◌∙◌, arith}
use Rattle.zt_history.specs.Tree.{Made}
use Rattle.zt_history.proofs.NodeLaws.{node-seen}
use Rattle.zt_history.proofs.moments.Moments.call.Goals as goal

pub returns : goal.returns
returns c =
    let place : c.args.moment ≡ suc (c.moment.inside.0 - 1) = omega (arith, c.moment.view_is, c.if-moment-eq0.false) in
    c.call.ensures ∙ node-seen c.self.inside.nodes.list c.self.inside.records.items c.args.self.now (c.moment.inside.0 - 1) c.args.moment c.self.view_is place (λ (e : Made). (e.process, e.call))
