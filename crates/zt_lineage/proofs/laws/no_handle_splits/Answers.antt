use Rattle.zt_lineage.proofs.MoveLaws.{one_place}
use Rattle.zt_lineage.proofs.laws.no_handle_splits.Goals as goal

pub returns : goal.returns
returns c = one_place
