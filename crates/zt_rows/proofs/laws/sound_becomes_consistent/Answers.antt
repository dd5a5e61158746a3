use Rattle.zt_rows.proofs.StepLaws.{consistent-completed}
use Rattle.zt_rows.proofs.laws.sound_becomes_consistent.Goals as goal

pub returns : goal.returns
returns c = consistent-completed
