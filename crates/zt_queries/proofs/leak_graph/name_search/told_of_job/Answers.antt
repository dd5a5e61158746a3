-- The last of them to lose a name or a child tells.
use Rattle.std.proofs.Common.{ℕ, List, subst, arith}
use Rattle.zt_history.specs.Tree.{Made}
use Rattle.zt_queries.specs.ProofsOnly.NameSearch.{AreFound}
use Rattle.zt_queries.proofs.LostChildLaws.{job-told-by}
use Rattle.zt_queries.proofs.leak_graph.name_search.told_of_job.Goals as goal

pub returns-in-All : goal.returns-in-All
returns-in-All c =
    let made : List Made = c.args.history.now.tree.made in
    let at : ℕ = c.args.history.now.position in
    job-told-by made c.position.ensures.tree.moments at c.args.koid (omega (arith, c.position.ensures.within, c.position.ensures.position)) c.requires.live c.requires.no_root
    c.in-All.names c.in-All.children c.later.result (subst (AreFound made at c.args.koid) c.in-All.is c.in_ok-names.ensures) c.later.ensures
