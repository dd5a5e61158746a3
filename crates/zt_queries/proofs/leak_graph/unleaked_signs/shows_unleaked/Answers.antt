-- What the moment's record tells.
use Rattle.std.proofs.Common.{subst, sym}
use Rattle.zt_queries.specs.ProofsOnly.FirstLeak.{HoldsRowsOf}
use Rattle.zt_queries.proofs.leak_graph.unleaked_signs.shows_unleaked.Goals as goal

pub returns : goal.returns
returns c = λ t S behind. c.tells_unleaked.ensures t S (subst (λ o. HoldsRowsOf o S) (sym c.in-Some.ensures) behind)
