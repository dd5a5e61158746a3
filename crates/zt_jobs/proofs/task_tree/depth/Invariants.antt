use Rattle.std.proofs.Common.{◌≤◌, ◌+◌, ◌-◌}
use Rattle.zt_jobs.proofs.ChainLaws.{IsFollowed}
use Rattle.zt_jobs.proofs.task_tree.depth.Given as goal

abbrev pub invariant-links : goal.invariant-links
invariant-links l = record {
  within : l.above ≤ l.fn.koid + 1;
  followed : IsFollowed l.step.current l.fn.koid l.above l.at;
}

abbrev pub decreases-links : goal.decreases-links
decreases-links l = l.fn.koid + 1 - l.above
