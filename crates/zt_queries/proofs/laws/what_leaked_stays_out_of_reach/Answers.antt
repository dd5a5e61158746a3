use Rattle.zt_queries.proofs.StayLaws.{tree-stays}
use Rattle.zt_queries.proofs.laws.what_leaked_stays_out_of_reach.Goals as goal

pub returns : goal.returns
returns c = tree-stays
