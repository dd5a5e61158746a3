use Rattle.zt_jobs.proofs.ChainLaws.{IsSought}
use Rattle.zt_jobs.proofs.task_tree.has_above.Given as goal

abbrev pub invariant-links : goal.invariant-links
invariant-links l = IsSought l.step.current l.fn.koid l.job l.left l.at

abbrev pub decreases-links : goal.decreases-links
decreases-links l = l.left
