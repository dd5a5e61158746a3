-- A name that no branch has is a key that is not there, and goes last.
use Rattle.std.proofs.Common.{◌∙◌, ap, ◌++◌, ◌∷◌, []}
use Rattle.indexmap.proofs.CallerLemmas.{insert_entry-new}
use Rattle.zt_history.specs.Tree.{branch_named}
use Rattle.zt_history.specs.ProofsOnly.Branches.{branches_by}
use Rattle.zt_history.proofs.BranchLaws.{lookup-unnamed, branches_by-push}
use Rattle.zt_history.proofs.branches.Branches.add.Goals as goal

pub returns-clause-ok : goal.returns-clause-ok
returns-clause-ok c =
    let k = c.in_ok-name.name in
    let es = c.self.inside.heads.entries in
    let absent = lookup-unnamed (λ k. k.items) k.items es (ap (λ bs. branch_named bs k.items) c.self.view_is ∙ ap (branch_named c.args.self.now) c.in_ok-name.ensures.items ∙ c.requires) in
    ap (branches_by (λ k. k.items)) (c.in_ok-insert.ensures.entries ∙ insert_entry-new _ c.self.inside.heads k c.args.head absent)
    ∙ branches_by-push (λ k. k.items) es k c.args.head
    ∙ (λ i. c.self.view_is i ++ record { name = c.in_ok-name.ensures.items i; head = c.args.head } ∷ [])
