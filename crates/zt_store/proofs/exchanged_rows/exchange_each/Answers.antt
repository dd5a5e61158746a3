use Rattle.std.proofs.Common.{arith, refl, ◌∙◌}
use Rattle.std.proofs.lemmas.List.{length-set}
use Rattle.zt_store.proofs.Exchanges.{swapping-start}
use Rattle.zt_store.proofs.SlotLaws.{pairs-fits, pairs-suits, pairs-step, pairs-end}
use Rattle.zt_store.proofs.exchanged_rows.exchange_each.Goals as goal

pub loop-place-init : goal.loop-place-init
loop-place-init c = (swapping-start _ _ _ c.requires.distinct c.requires.suited c.requires.placed, refl, c.requires.even)

pub exchange-requires : goal.exchange-requires
exchange-requires c = record {
  placed = pairs-fits _ _ _ _ _ _ _ c.index-rows-place.result c.loop-place.invariant.2 (omega (arith, c.loop-place.invariant.2)) c.index-keys-place.is _ _ c.loop-place.invariant.0 c.loop-place.invariant.1;
  suited = pairs-suits _ _ _ _ _ _ _ c.index-rows-place.result c.loop-place.invariant.2 (omega (arith, c.loop-place.invariant.2)) c.index-keys-place.is _ c.loop-place.invariant.0;
}

pub loop-place-preserved : goal.loop-place-preserved
loop-place-preserved c =
    let next = pairs-step _ _ _ _ _ _ _ c.index-rows-place.result c.loop-place.invariant.2 (omega (arith, c.loop-place.invariant.2)) c.index-keys-place.is c.loop-place.store c.exchange.new.self c.exchange.new.kept
    c.loop-place.invariant.0 c.loop-place.invariant.1 c.exchange.ensures.put c.exchange.ensures.was c.exchange.ensures.suited c.exchange.ensures.fit in
    (next.0, next.1, length-set c.loop-place.rows c.loop-place.place c.exchange.new.kept ∙ c.loop-place.invariant.2)

pub returns-clause-exchanged : goal.returns-clause-exchanged
returns-clause-exchanged c = pairs-end _ _ _ _ _ _ _ c.loop-place.invariant.0 c.loop-place.invariant.2 (omega (arith, c.loop-place.auto.rows, c.loop-place-test.false))
