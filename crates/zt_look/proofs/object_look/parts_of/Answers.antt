-- The state of the position is consistent.
use Rattle.std.proofs.Common.{sym, subst}
use Rattle.zt_rows.specs.Consistent.{IsConsistent}
use Rattle.zt_history.proofs.LawsOfTrees.{tree-consistent}
use Rattle.zt_look.proofs.object_look.parts_of.Goals as goal

pub owned_of-requires : goal.owned_of-requires
owned_of-requires c =
    subst IsConsistent (sym c.store-store.ensures.state) (tree-consistent c.args.history.now.tree c.args.history.now.position c.limits.ensures.tree c.limits.ensures.within)

pub owned_of-requires-2 : goal.owned_of-requires-2
owned_of-requires-2 c =
    subst IsConsistent (sym c.store-store.ensures.state) (tree-consistent c.args.history.now.tree c.args.history.now.position c.limits.ensures.tree c.limits.ensures.within)
