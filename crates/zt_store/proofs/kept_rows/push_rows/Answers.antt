use Rattle.std.proofs.Common.{◌∙◌}
use Rattle.zt_store.proofs.TakenRows.{pushing-next, taking-within}
use Rattle.zt_store.proofs.kept_rows.push_rows.Goals as goal

pub loop-place-preserved : goal.loop-place-preserved
loop-place-preserved c = (
  pushing-next _ _ _ _ _ _ _ _ c.requires.order c.loop-place.invariant.0.taking c.loop-place-test.true c.exchange-key.ensures.was c.exchange-key.ensures.put _ _ _ _ c.loop-place.invariant.0 c.push_reserved.ensures.items c.push_reserved-in-loop-place.ensures.items,
  c.push_reserved.ensures.capacity ∙ c.loop-place.invariant.1,
  c.push_reserved-in-loop-place.ensures.capacity ∙ c.loop-place.invariant.2,
)

pub exchange-key-requires : goal.exchange-key-requires
exchange-key-requires c = taking-within _ _ _ _ c.requires.order c.loop-place.invariant.0.taking c.loop-place-test.true
