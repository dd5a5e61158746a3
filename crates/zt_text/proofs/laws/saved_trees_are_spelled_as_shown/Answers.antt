use Rattle.zt_text.proofs.SpelledTrees.{saved_spelled}
use Rattle.zt_text.proofs.laws.saved_trees_are_spelled_as_shown.Goals as goal

pub returns : goal.returns
returns c = saved_spelled
