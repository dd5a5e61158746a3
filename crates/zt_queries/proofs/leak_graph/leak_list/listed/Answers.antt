-- What one key more gives stands behind the others.
use Rattle.std.proofs.Common.{length, ◌<◌, arith}
use Rattle.std.specs.Ordering.{nat_cmp}
use Rattle.std.specs.BTreeSet.{contains}
use Rattle.zt_queries.specs.ProofsOnly.LeakGraph.{left_at}
use Rattle.zt_queries.proofs.CopyLaws.{given_more}
use Rattle.zt_queries.proofs.leak_graph.leak_list.listed.Goals as goal

pub loop-key-preserved : goal.loop-key-preserved
loop-key-preserved c =
    let below : c.loop-key.key-index < length c.args.keys.now = omega arith in
    given_more (left_at c.args.graph.now (contains nat_cmp c.args.found.now.reached) (contains nat_cmp c.args.found.now.above)) c.args.keys.now c.loop-key.key-index c.key-item.result
    c.loop-key.list.items c.push_left.new.list.items below c.key-item.is c.loop-key.invariant c.in_ok-push_left.ensures
