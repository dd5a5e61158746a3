use Rattle.zt_lineage.proofs.OriginLaws.{origin_step}
use Rattle.zt_lineage.proofs.laws.each_handle_has_one_origin.Goals as goal

pub returns : goal.returns
returns c = origin_step
