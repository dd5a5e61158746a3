-- The rows under all keys are drawn.
use Rattle.std.proofs.Common.{◌<◌, ◌≤◌, length, ◌∙◌, arith}
use Rattle.zt_queries.proofs.GraphLaws.{drawn_more, all_drawn}
use Rattle.zt_queries.proofs.leak_graph.graph.graph_of.Goals as goal

pub loop-key-preserved : goal.loop-key-preserved
loop-key-preserved c =
    let below : c.loop-key.key-index < length c.deref-key-items.result.now = omega arith in
    λ q. drawn_more c.args.store.now.state c.deref-key-items.result.now c.loop-key.key-index c.key-item.result q _ _ below c.key-item.is (c.loop-key.invariant q) (c.in_ok-draw.ensures q)

pub returns : goal.returns
returns c =
    let past : length c.deref-key-items.result.now ≤ c.loop-key.key-index = omega arith in
    record { draws = λ q. all_drawn c.args.store.now.state c.deref-key-items.result.now c.loop-key.key-index q _ (c.deref-key-items.ensures.value ∙ c.in_ok-keys.ensures) past (c.loop-key.invariant q) }
