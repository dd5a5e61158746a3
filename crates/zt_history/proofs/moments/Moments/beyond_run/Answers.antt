-- The moments of a run are above its last, and so is the parent of its first.
use Rattle.std.proofs.Common.{rules, ◌≤◌, arith}
use Rattle.zt_history.proofs.ForkLaws.{parent-above}
use Rattle.zt_history.proofs.moments.Moments.beyond_run.Goals as goal

pub returns-then-le-clause-above : goal.returns-then-le-clause-above
returns-then-le-clause-above c =
    let first : c.shortcut-first.result.first ≤ c.args.limit = search rules in
    c.shortcut-first.ensures.run.above c.args.limit first (omega (arith, c.requires))

pub returns-else-le-clause-above : goal.returns-else-le-clause-above
returns-else-le-clause-above c =
    parent-above c.args.self.now.made c.limits.ensures.falls c.shortcut-first.result.first c.args.from c.parent.result
    (c.shortcut-first.ensures.run.above c.shortcut-first.result.first (omega arith) c.shortcut-first.ensures.run.within) c.parent.ensures
