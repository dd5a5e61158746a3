-- The supports of a live job are its names and its live children.
use Rattle.std.proofs.Common.{◌≤◌, ◌-◌, sym, ◌∙◌, arith}
use Rattle.zt_index.specs.KoidCounts.{named_by}
use Rattle.zt_index.specs.ProofsOnly.KoidCounts.{total}
use Rattle.zt_queries.proofs.NameSearchLaws.{job-names-few, names-few}
use Rattle.zt_queries.proofs.leak_graph.name_search.names_of.Goals as goal

pub returns-then-is_live_job : goal.returns-then-is_live_job
returns-then-is_live_job c =
    let few : total (named_by c.args.koid) c.args.store.now.state ≤ c.count-count.result - c.child_jobs.result - c.child_processes.result =
    job-names-few c.args.store.now.state c.args.koid c.count-count.result c.child_jobs.result c.child_processes.result c.in-Some.found
    (sym c.object.ensures ∙ c.in-Some.is) (sym c.is_live_job.ensures ∙ c.if-is_live_job.true) c.count-count.ensures c.child_jobs.ensures c.child_processes.ensures in
    omega (arith, few, c.saturating_sub.ensures, c.saturating_sub-then-is_live_job.ensures)

pub returns-else-is_live_job : goal.returns-else-is_live_job
returns-else-is_live_job c = names-few c.args.store.now.state c.args.koid c.count-count.result c.count-count.ensures

pub returns-in-None : goal.returns-in-None
returns-in-None c = names-few c.args.store.now.state c.args.koid c.count-count.result c.count-count.ensures
