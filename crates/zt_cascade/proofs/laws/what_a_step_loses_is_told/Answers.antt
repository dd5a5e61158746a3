use Rattle.zt_cascade.proofs.CoveredLaws.{lost-covered}
use Rattle.zt_cascade.proofs.laws.what_a_step_loses_is_told.Goals as goal

pub returns : goal.returns
returns c = lost-covered
