-- So far what the messages below the number name was added.
use Rattle.zt_look.specs.ProofsOnly.UnleakedSearch.{Adds, IsNamedBetween}
use Rattle.zt_look.proofs.unleaked_search.add_between.Given as goal

abbrev pub invariant-loop-number : goal.invariant-loop-number
invariant-loop-number l = Adds (IsNamedBetween l.store.state l.endpoint l.first l.number) l.kept l.fn.search l.search
