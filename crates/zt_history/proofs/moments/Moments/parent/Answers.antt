-- The parent that is kept in the place before the moment's number.
use Rattle.std.proofs.Common.{◌≡◌, suc, ◌-◌, sym, ap, ◌∙◌, arith}
use Rattle.zt_history.proofs.NodeLaws.{or_opening, parent-listed}
use Rattle.zt_history.proofs.moments.Moments.parent.Goals as goal
use Rattle.zt_history.proofs.moments.Moments.parent.Goals.{in-Some, in-None}

pub returns : goal.returns
returns c =
    let place : c.args.moment ≡ suc (c.moment.inside.0 - 1) = omega (arith, c.moment.view_is, c.if-moment-eq0.false) in
    let there = ap or_opening c.parent.ensures ∙ parent-listed c.self.inside.nodes.list c.self.inside.records.items c.args.self.now (c.moment.inside.0 - 1) c.args.moment c.self.view_is place in
    elim c.match-parent.branch [
      | in-Some w ↦ c.result.view_is ∙ w.result-is ∙ sym (ap or_opening w.in-Some.is) ∙ there
      | in-None w ↦ c.result.view_is ∙ w.result-is ∙ sym (ap or_opening w.in-None.is) ∙ there
    ]
