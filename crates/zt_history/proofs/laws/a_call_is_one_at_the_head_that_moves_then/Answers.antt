-- The checks, one by one.
use Rattle.zt_history.proofs.LawsOfTrees.{tree-followed}
use Rattle.zt_history.proofs.laws.a_call_is_one_at_the_head_that_moves_then.Goals as goal

pub returns : goal.returns
returns c = tree-followed
