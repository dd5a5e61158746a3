use Rattle.std.proofs.Common.{sym, subst}
use Rattle.zt_jobs.specs.EndingWalk.{IsWalkable}
use Rattle.zt_jobs.proofs.ending_set.members_ending.Goals as goal

pub returns-clause-members : goal.returns-clause-members
returns-clause-members c =
    subst (IsWalkable c.args.step.now.current c.args.task) (sym c.in_ok-members.ensures.members) c.in_ok-known.ensures
