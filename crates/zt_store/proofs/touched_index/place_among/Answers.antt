use Rattle.std.proofs.Common.{arith}
use Rattle.zt_store.proofs.Touches.{among-next, among-none}
use Rattle.zt_store.proofs.touched_index.place_among.Goals as goal

pub loop-place-preserved : goal.loop-place-preserved
loop-place-preserved c = among-next c.args.keys.now c.loop-place.place c.index-keys-place.result c.args.key.now c.eq.result (omega arith) c.index-keys-place.is c.loop-place.invariant c.eq.ensures c.if-eq.false

pub returns : goal.returns
returns c = among-none c.args.keys.now c.loop-place.place c.args.key.now (omega arith) c.loop-place.invariant
