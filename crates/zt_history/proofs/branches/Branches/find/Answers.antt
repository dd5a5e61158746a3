-- Looking for the key is looking for the name, and what is found is one of the branches.
use Rattle.std.proofs.Common.{sym, ◌∙◌, ap}
use Rattle.zt_history.specs.Tree.{branch_named}
use Rattle.zt_history.proofs.BranchLaws.{branch_named-keys, named-within}
use Rattle.zt_history.proofs.branches.Branches.find.Goals as goal

pub returns-in-Some-clause-found : goal.returns-in-Some-clause-found
returns-in-Some-clause-found c =
    c.in-Some.ensures.index
    ∙ sym (branch_named-keys (λ k. k.items) c.args.name.now c.self.inside.heads.entries)
    ∙ ap (λ bs. branch_named bs c.args.name.now) c.self.view_is

pub returns-in-Some-clause-within : goal.returns-in-Some-clause-within
returns-in-Some-clause-within c =
    named-within c.args.self.now c.args.name.now c.in-Some.number
    (c.in-Some.ensures.index
    ∙ sym (branch_named-keys (λ k. k.items) c.args.name.now c.self.inside.heads.entries)
    ∙ ap (λ bs. branch_named bs c.args.name.now) c.self.view_is)

pub returns-in-None-clause-found : goal.returns-in-None-clause-found
returns-in-None-clause-found c =
    c.in-None.ensures.index
    ∙ sym (branch_named-keys (λ k. k.items) c.args.name.now c.self.inside.heads.entries)
    ∙ ap (λ bs. branch_named bs c.args.name.now) c.self.view_is
