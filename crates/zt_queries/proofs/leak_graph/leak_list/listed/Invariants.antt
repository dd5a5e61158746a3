-- The leaked objects of the keys so far.
use Rattle.std.proofs.Common.{◌≡◌, take}
use Rattle.std.specs.List.{filter_map}
use Rattle.std.specs.Ordering.{nat_cmp}
use Rattle.std.specs.BTreeSet.{contains}
use Rattle.zt_queries.specs.ProofsOnly.LeakGraph.{left_at}
use Rattle.zt_queries.proofs.leak_graph.leak_list.listed.Given as goal

abbrev pub invariant-loop-key : goal.invariant-loop-key
invariant-loop-key l = l.list.items ≡ filter_map (left_at l.graph (contains nat_cmp l.found.reached) (contains nat_cmp l.found.above)) (take l.key-index l.keys)
