-- What happens once at most on a path of calls does so on the path to a moment.
use Rattle.zt_queries.proofs.TreeTimes.{only-moment, no-moment}
use Rattle.zt_queries.proofs.laws.a_moment_found_is_the_only_one.Goals as goal

pub returns-clause-only : goal.returns-clause-only
returns-clause-only c = only-moment

pub returns-clause-none : goal.returns-clause-none
returns-clause-none c = no-moment
