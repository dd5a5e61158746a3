use Rattle.zt_lineage.proofs.MoveLaws.{followed_step}
use Rattle.zt_lineage.proofs.laws.each_move_is_followed.Goals as goal

pub returns : goal.returns
returns c = followed_step
