-- A book at the opening is fresh.
use Rattle.worked_runs.proofs.Beginning.{first_is_fresh}
use Rattle.worked_runs.proofs.begin.Goals as goal

pub returns-in-Ok-new-clause-fresh : goal.returns-in-Ok-new-clause-fresh
returns-in-Ok-new-clause-fresh c = first_is_fresh _ _ c.in-Ok-new.ensures.ok
