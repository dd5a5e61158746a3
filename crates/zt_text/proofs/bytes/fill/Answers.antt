-- A pair of digits more is a byte more.
use Rattle.std.proofs.Common.{refl, arith}
use Rattle.zt_text.specs.Bytes.{hex_bytes}
use Rattle.zt_text.proofs.ByteLemmas.{filled_more, filled_all}
use Rattle.zt_text.proofs.bytes.fill.Goals as goal

pub loop-place-init : goal.loop-place-init
unfolding hex_bytes
loop-place-init c = refl

pub loop-place-preserved : goal.loop-place-preserved
loop-place-preserved c =
    filled_more c.args.digits.now c.loop-place.bytes c.loop-place.place c.hex_value-high.result c.hex_value-low.result (omega arith) (omega arith)
    c.hex_value-high.ensures c.hex_value-low.ensures c.loop-place.invariant

pub returns : goal.returns
returns c = filled_all c.args.digits.now c.loop-place.bytes c.loop-place.place (omega arith) (omega arith) c.loop-place.invariant
