-- A write of the value at the index moves the head.
use Rattle.std.proofs.Common.{◌∙◌}
use Rattle.zt_history.specs.Tree.{headed}
use Rattle.zt_history.proofs.BranchLaws.{headed-value}
use Rattle.zt_history.proofs.branches.Branches.set_head.Goals as goal

pub returns : goal.returns
returns c =
    headed-value (λ k. k.items) c.self.inside.heads.entries c.id.inside.0 c.args.head
    ∙ (λ i. headed (c.self.view_is i) (c.id.view_is i) c.args.head)
