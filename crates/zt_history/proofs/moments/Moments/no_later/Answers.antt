-- A moment that is later than the limit is passed over to the limit, where that is in its run, to its jump or to its parent.
use Rattle.std.proofs.Common.{rules, ◌<◌, ◌≤◌, ◌∙◌, ap, arith}
use Rattle.zt_rows.specs.Tests.{among}
use Rattle.zt_history.specs.Tree.{path}
use Rattle.zt_history.proofs.NotedLaws.{parent-among}
use Rattle.zt_history.proofs.ForkLaws.{above-among}
use Rattle.zt_history.proofs.moments.Moments.no_later.Goals as goal

pub loop-limit-preserved-then-le : goal.loop-limit-preserved-then-le
loop-limit-preserved-then-le c =
    let later : c.args.limit < c.loop-limit.at = search rules in
    let first : c.shortcut-shortcut.result.first ≤ c.args.limit = search rules in
    λ m low.
    above-among c.args.self.now.made c.limits.ensures.falls c.args.limit m c.loop-limit.at low (c.shortcut-shortcut.ensures.run.above c.args.limit first (omega (arith, later)))
    ∙ c.loop-limit.invariant m low

pub loop-limit-preserved-then-ge : goal.loop-limit-preserved-then-ge
loop-limit-preserved-then-ge c =
    let within : c.args.limit ≤ c.shortcut-shortcut.result.jump = search rules in
    λ m low.
    above-among c.args.self.now.made c.limits.ensures.falls c.shortcut-shortcut.result.jump m c.loop-limit.at (omega (arith, low, within)) c.shortcut-shortcut.ensures.jump.above
    ∙ c.loop-limit.invariant m low

pub loop-limit-preserved : goal.loop-limit-preserved
loop-limit-preserved c =
    let later : c.args.limit < c.loop-limit.at = search rules in
    λ m low.
    ap (λ p. among (path c.args.self.now.made p) m) c.parent.ensures
    ∙ parent-among c.args.self.now.made c.limits.ensures.falls c.loop-limit.at m (omega (arith, low, later))
    ∙ c.loop-limit.invariant m low
