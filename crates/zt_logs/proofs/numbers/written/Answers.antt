-- One digit more.
use Rattle.std.proofs.Common.{arith}
use Rattle.zt_logs.proofs.NumberLaws.{digits_next}
use Rattle.zt_logs.proofs.numbers.written.Goals as goal

pub loop-byte-preserved : goal.loop-byte-preserved
loop-byte-preserved c =
    digits_next c.args.base c.args.digits.now c.loop-byte.byte-index c.loop-byte.number c.in_ok-number.number (omega (arith, c.loop-byte-test.true))
    c.loop-byte.invariant c.in_ok-number.ensures
