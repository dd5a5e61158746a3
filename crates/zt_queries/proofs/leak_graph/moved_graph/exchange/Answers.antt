-- One key after another.
use Rattle.std.proofs.Common.{◌<◌, ◌≤◌, length, arith}
use Rattle.std.specs.BTreeMap.{get}
use Rattle.zt_rows.specs.Keys.{rowkey_cmp}
use Rattle.zt_queries.proofs.SinceLaws.{redrawn_more, all_redrawn}
use Rattle.zt_queries.proofs.leak_graph.moved_graph.exchange.Goals as goal

pub loop-key-preserved : goal.loop-key-preserved
loop-key-preserved c =
    let below : c.loop-key.key-index < length c.keys-key-items.result.now = omega arith in
    λ q.
    redrawn_more c.args.change.now c.keys-key-items.result.now c.loop-key.key-index c.key-item.result below c.key-item.is (get rowkey_cmp c.args.graph.now) (get rowkey_cmp c.loop-key.graph)
    (get rowkey_cmp c.redraw.new.graph q) q (c.loop-key.invariant c.key-item.result) (c.loop-key.invariant q) (c.in_ok-redraw.ensures q)

pub returns : goal.returns
returns c =
    let past : length c.keys-key-items.result.now ≤ c.loop-key.key-index = omega arith in
    λ q.
    all_redrawn c.args.change.now c.keys-key-items.result.now c.loop-key.key-index (get rowkey_cmp c.args.graph.now) (get rowkey_cmp c.loop-key.graph q) q c.keys-key-items.ensures past (c.loop-key.invariant q)
