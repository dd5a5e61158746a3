-- Every head is a moment.
use Rattle.std.proofs.Common.{length, ap, arith}
use Rattle.zt_history.specs.Timeline.{Timeline}
use Rattle.zt_history.proofs.TreeLaws.{head-within}
use Rattle.zt_history.proofs.history.History.head.Goals as goal

pub returns-clause-within : goal.returns-clause-within
returns-clause-within c =
    omega (arith, c.head.ensures, ap (λ (h : Timeline). length h.tree.made) c.self.view_is, head-within (length c.self.inside.moments.made) c.self.inside.branches c.self.invariant.kept.branches_stand.heads c.args.id)
