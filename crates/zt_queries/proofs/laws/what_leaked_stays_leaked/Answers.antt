use Rattle.zt_queries.proofs.LeakLaws.{leaked-stays, leaked-endpoint}
use Rattle.zt_queries.proofs.OnceLaws.{leaked-unreached}
use Rattle.zt_queries.proofs.laws.what_leaked_stays_leaked.Goals as goal

pub returns-clause-leaked_or_gone : goal.returns-clause-leaked_or_gone
returns-clause-leaked_or_gone c S p d x consistent live is e there = leaked-stays S consistent p live d is x e there

pub returns-clause-endpoint : goal.returns-clause-endpoint
returns-clause-endpoint c S p d x consistent live is e ends = leaked-endpoint S consistent p live d is x e ends

pub returns-clause-out_of_reach : goal.returns-clause-out_of_reach
returns-clause-out_of_reach c = leaked-unreached
