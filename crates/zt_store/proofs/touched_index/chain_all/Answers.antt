use Rattle.std.proofs.Common.{length, replicate, ap, sym, ◌∙◌, arith, rules}
use Rattle.zt_store.proofs.TouchedIndexLaws.{chained-none, key-read}
use Rattle.zt_store.proofs.touched_index.chain_all.Goals as goal

pub loop-place-init : goal.loop-place-init
loop-place-init c =
    chained-none (length c.fill.new.self) c.fill.new.self c.args.links.now c.args.keys.now
    (c.fill.ensures.after (λ y same. search rules) ∙ ap (λ n. replicate n 0) (sym c.fill.ensures.len))

pub loop-place-preserved : goal.loop-place-preserved
loop-place-preserved c =
    c.chain.ensures c.args.keys.now (key-read c.args.keys.now c.loop-place.place c.index-keys-place.result (omega arith) c.index-keys-place.is) c.loop-place.invariant
