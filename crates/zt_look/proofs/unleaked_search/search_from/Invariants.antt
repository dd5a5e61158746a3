-- So far the rows under the keys that were gone over were seen to.
use Rattle.std.proofs.Common.{take}
use Rattle.zt_look.specs.ProofsOnly.UnleakedSearch.{IsSeeded}
use Rattle.zt_look.proofs.unleaked_search.search_from.Given as goal

abbrev pub invariant-loop-key : goal.invariant-loop-key
invariant-loop-key l = IsSeeded l.store.state l.kept (take l.key-index l.all) l.fn.search l.search
