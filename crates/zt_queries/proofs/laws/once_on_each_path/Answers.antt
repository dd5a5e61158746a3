use Rattle.zt_queries.proofs.TreeTimes.{tree-once}
use Rattle.zt_queries.proofs.laws.once_on_each_path.Goals as goal

pub returns : goal.returns
returns c = tree-once
