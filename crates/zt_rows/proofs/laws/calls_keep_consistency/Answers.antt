use Rattle.zt_rows.proofs.CallLaws.{step-consistent}
use Rattle.zt_rows.proofs.laws.calls_keep_consistency.Goals as goal

pub returns : goal.returns
returns c = step-consistent
