use Rattle.std.proofs.Common.{◌∙◌, arith}
use Rattle.zt_text.proofs.NumberLemmas.{hex-so-far-more, hex-so-far-fits, hex-so-far-all}
use Rattle.zt_text.proofs.numbers.hex_digits.Goals as goal

pub overflow_mul-number : goal.overflow_mul-number
overflow_mul-number c =
    let fits = hex-so-far-fits c.args.bytes.now c.loop-byte.byte-index c.loop-byte.number c.loop-byte.sum (omega arith) c.loop-byte.invariant in
    omega (arith, fits.0)

pub overflow_add-number : goal.overflow_add-number
overflow_add-number c =
    let fits = hex-so-far-fits c.args.bytes.now c.loop-byte.byte-index c.loop-byte.number c.loop-byte.sum (omega arith) c.loop-byte.invariant in
    omega (arith, fits.0)

pub overflow_add-sum : goal.overflow_add-sum
overflow_add-sum c =
    let fits = hex-so-far-fits c.args.bytes.now c.loop-byte.byte-index c.loop-byte.number c.loop-byte.sum (omega arith) c.loop-byte.invariant in
    omega (arith, fits.1)

pub overflow_cast-result : goal.overflow_cast-result
overflow_cast-result c =
    let all = hex-so-far-all c.args.bytes.now c.loop-byte.byte-index c.loop-byte.number c.loop-byte.sum (omega arith) (omega arith) c.loop-byte.invariant (omega arith) in
    omega (arith, all.2)

pub loop-byte-preserved : goal.loop-byte-preserved
loop-byte-preserved c =
    hex-so-far-more c.args.bytes.now c.loop-byte.byte-index c.loop-byte.number c.loop-byte.sum c.from-value.result c.loop-byte-test.true (c.from-value.ensures ∙ c.hex_value_or_none.ensures) c.loop-byte.invariant
