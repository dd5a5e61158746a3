use Rattle.std.proofs.Common.{arith, sym}
use Rattle.std.proofs.lemmas.Bool.Decides.{nat_tests}
use Rattle.zt_text.proofs.FrontLemmas.{decimal_in_front}
use Rattle.zt_text.proofs.front_numbers.number_in_front.Goals as goal

pub returns-in-Some-clause-read : goal.returns-in-Some-clause-read
returns-in-Some-clause-read c =
    decimal_in_front c.args.bytes.now c.in-Some.first.now c.in-Some.left _ _ c.args.most c.in-Some.ensures.cut c.in-Some.ensures.first
    c.digits_in_front-number.ensures.digits c.digits_in_front-number.ensures.value
    (grind (arith, nat_tests)) (sym c.if-not-has_leading_zero.ensures) (omega arith)
