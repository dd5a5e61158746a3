use Rattle.zt_jobs.proofs.EndingLaws.{sound-walkable}
use Rattle.zt_jobs.proofs.laws.sound_states_are_walkable.Goals as goal

pub returns : goal.returns
returns c = λ S x o sound here task. sound-walkable S sound x o here task
