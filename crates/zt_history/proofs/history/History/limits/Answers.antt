-- The branches stand beside the moments.
use Rattle.std.proofs.Common.{length, subst}
use Rattle.zt_history.specs.Timeline.{Timeline}
use Rattle.zt_history.specs.TreeInvariant.{AreBranches}
use Rattle.zt_history.proofs.history.History.limits.Goals as goal

pub returns : goal.returns
returns c = subst (λ (h : Timeline). AreBranches (length h.tree.made) h.tree.branches) c.self.view_is c.self.invariant.kept.branches_stand
