-- Of all objects, those that are not listed as leaked.
use Rattle.std.proofs.Common.{◌∙◌, ap}
use Rattle.zt_rows.specs.Change.{keys}
use Rattle.zt_history.specs.Tree.{state_at}
use Rattle.zt_history.proofs.LawsOfTrees.{tree-consistent}
use Rattle.zt_look.proofs.UnleakedLaws.{unleaked-listed}
use Rattle.zt_look.proofs.unleaked_set.unleaked_at.Goals as goal

pub returns-in-Ok : goal.returns-in-Ok
returns-in-Ok c =
    unleaked-listed (state_at c.args.history.now.tree.made c.args.history.now.position)
    (tree-consistent c.args.history.now.tree c.args.history.now.position c.limits.ensures.tree c.limits.ensures.within) c.as_slice.result.now c.in_ok-set.set c.take_leaked.new.set
    c.as_slice-in-Ok.result.now (c.as_slice.ensures.value ∙ c.in_ok-all.ensures ∙ ap keys c.store.ensures.state) (c.as_slice-in-Ok.ensures ∙ c.in-Ok.ensures.ok)
    c.in_ok-set.ensures c.take_leaked.ensures
