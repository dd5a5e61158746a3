use Rattle.std.proofs.Common.{sym, subst}
use Rattle.zt_index.specs.IndexInvariant.{IsIndexed}
use Rattle.zt_index.proofs.index.Index.grow_for.Goals as goal

pub returns-clause-same : goal.returns-clause-same
returns-clause-same c = λ s is. c.grow_for.ensures.same s (subst (IsIndexed s) (sym c.self.view_is) is)
