-- So far some that waited were looked into.
use Rattle.std.proofs.Common.{◌+◌, ◌-◌, length}
use Rattle.std.specs.BTreeSet.{btree_set_len}
use Rattle.zt_rows.specs.Reads.{counters}
use Rattle.zt_look.specs.ProofsOnly.UnleakedSearch.{IsSearched}
use Rattle.zt_look.proofs.unleaked_search.go_on.Given as goal

abbrev pub invariant-loop-koid : goal.invariant-loop-koid
invariant-loop-koid l = IsSearched l.store.state l.kept l.fn.search l.search

abbrev pub decreases-loop-koid : goal.decreases-loop-koid
decreases-loop-koid l = ((counters l.store.state).next_koid - btree_set_len l.search.set) + length l.search.waiting.items
