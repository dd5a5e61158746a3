use Rattle.zt_cascade.proofs.FiringLaws.{settled-within}
use Rattle.zt_cascade.proofs.laws.settling_raises_few_numbers.Goals as goal

pub returns : goal.returns
returns c = settled-within
