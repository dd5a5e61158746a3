-- The last of them to lose a name tells, or that the object ended later.
use Rattle.std.proofs.Common.{ℕ, List, ap, ◌∙◌, subst, arith}
use Rattle.zt_history.specs.declared.row_happenings.RowHappening.TheVariants as turn
use Rattle.zt_history.specs.RowHappenings.{last_shown}
use Rattle.zt_history.specs.Tree.{Made}
use Rattle.zt_queries.specs.ProofsOnly.NameSearch.{AreFound}
use Rattle.zt_queries.proofs.ReleasedLaws.{told-by}
use Rattle.zt_queries.proofs.LostChildLaws.{names-of-both}
use Rattle.zt_queries.proofs.leak_graph.name_search.told_of_passive.Goals as goal

pub returns-in-All : goal.returns-in-All
returns-in-All c =
    let made : List Made = c.args.history.now.tree.made in
    let at : ℕ = c.args.history.now.position in
    told-by made c.position.ensures.tree.moments at c.args.koid (omega (arith, c.position.ensures.within, c.position.ensures.position)) c.requires
    c.in-All.names c.last_shown-ended.result c.later.result
    (names-of-both made at c.args.koid c.in-All.names c.in-All.children (subst (AreFound made at c.args.koid) c.in-All.is c.in_ok-names.ensures))
    (c.last_shown-ended.ensures ∙ ap (last_shown turn.Ended c.args.koid made) c.position.ensures.position)
    c.later.ensures
