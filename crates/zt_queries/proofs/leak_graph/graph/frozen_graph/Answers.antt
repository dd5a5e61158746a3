-- All rows are drawn, one after another.
use Rattle.zt_queries.proofs.FrozenLaws.{drawn_on, drawn_all}
use Rattle.zt_queries.proofs.leak_graph.graph.frozen_graph.Goals as goal

pub loop-key-preserved : goal.loop-key-preserved
loop-key-preserved c =
    λ q. drawn_on c.args.frozen.now.state c.rows-key-items.result.now c.loop-key.key-index c.loop-key-item.result q _ _ c.rows-key-items.ensures c.loop-key-test.true c.loop-key-item.is (c.loop-key.invariant q)
    (c.in_ok-draw_row.ensures q)

pub returns : goal.returns
returns c = record {
  draws = λ q. drawn_all c.args.frozen.now.state c.rows-key-items.result.now c.loop-key.key-index q _ c.rows-key-items.ensures c.loop-key-test.false (c.loop-key.invariant q);
}
