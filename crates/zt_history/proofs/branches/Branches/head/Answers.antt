-- The value at the index is the head.
use Rattle.std.proofs.Common.{sym, ◌∙◌}
use Rattle.zt_history.specs.Tree.{head_at}
use Rattle.zt_history.proofs.BranchLaws.{head_at-values}
use Rattle.zt_history.proofs.branches.Branches.head.Goals as goal

pub returns : goal.returns
returns c =
    sym (head_at-values (λ k. k.items) c.self.inside.heads.entries c.id.inside.0 c.index.result.now c.index.ensures)
    ∙ (λ i. head_at (c.self.view_is i) (c.id.view_is i))
