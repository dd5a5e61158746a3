use Rattle.std.proofs.Common.{◌∙◌, arith}
use Rattle.std.specs.Char.{is_ascii_digit}
use Rattle.zt_text.proofs.NumberLemmas.{refused, value_more, all_more, whole}
use Rattle.zt_json.proofs.names.digits.Goals as goal

pub returns-in_err-number : goal.returns-in_err-number
returns-in_err-number c =
    rw c.from_residual.ensures (refused c.args.bytes.now c.loop-byte.byte-index c.loop-byte.number c.loop-byte-test.true c.loop-byte.invariant.value c.in_err-number.ensures)

pub loop-byte-preserved : goal.loop-byte-preserved
loop-byte-preserved c = record {
  all = all_more is_ascii_digit c.args.bytes.now c.loop-byte.byte-index c.loop-byte-test.true c.loop-byte.invariant.all c.in_ok-number.ensures.0.0;
  value = c.in_ok-number.ensures.1 ∙ value_more c.args.bytes.now c.loop-byte.byte-index c.loop-byte.number c.loop-byte-test.true c.loop-byte.invariant.value c.in_ok-number.ensures.0.0;
  fits = omega (arith, c.in_ok-number.ensures.0.1, c.in_ok-number.ensures.1);
}

pub returns : goal.returns
returns c = whole c.args.bytes.now c.loop-byte.byte-index c.loop-byte.number c.loop-byte-test.false c.loop-byte.invariant.all c.loop-byte.invariant.value c.loop-byte.invariant.fits
