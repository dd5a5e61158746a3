-- A byte more is looked at.
use Rattle.std.proofs.Common.{arith}
use Rattle.zt_text.proofs.ByteLemmas.{looked_more, looked_all}
use Rattle.zt_text.proofs.bytes.is_hexadecimal.Goals as goal

pub loop-byte-preserved : goal.loop-byte-preserved
loop-byte-preserved c =
    looked_more c.args.field.now c.loop-byte.byte-index c.loop-byte.all c.is_hex_digit-all.result c.loop-byte-test.true c.loop-byte.invariant c.is_hex_digit-all.ensures

pub returns : goal.returns
returns c = looked_all c.args.field.now c.loop-byte.byte-index c.loop-byte.all (omega arith) c.loop-byte.invariant
