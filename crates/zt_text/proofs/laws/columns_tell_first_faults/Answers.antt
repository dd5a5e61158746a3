use Rattle.zt_text.proofs.FaultColumns.{column_told}
use Rattle.zt_text.proofs.laws.columns_tell_first_faults.Goals as goal

pub returns : goal.returns
returns c = column_told
