use Rattle.std.proofs.Common.{sym, subst}
use Rattle.zt_index.specs.IndexInvariant.{IsIndexed}
use Rattle.zt_index.proofs.index.Index.follow.Goals as goal

pub follow-requires-clause-indexed : goal.follow-requires-clause-indexed
follow-requires-clause-indexed c = subst (IsIndexed c.args.cells.now) (sym c.self.view_is) c.requires.indexed
