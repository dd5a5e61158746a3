-- The live children of a live job are counted as child jobs and as child processes.
use Rattle.std.proofs.Common.{sym, ◌∙◌, arith}
use Rattle.zt_queries.proofs.HoldLaws.{tasks_counted}
use Rattle.zt_queries.proofs.support_list.without_children.Goals as goal

pub returns-then-is_live_job : goal.returns-then-is_live_job
returns-then-is_live_job c =
    let tasks = tasks_counted c.args.koid c.args.store.now.state c.args.found.now (sym c.is_live_job.ensures ∙ c.if-is_live_job.true) in
    omega (arith, tasks, c.child_jobs.ensures, c.child_processes.ensures, c.saturating_sub.ensures, c.saturating_sub-then-is_live_job.ensures)
