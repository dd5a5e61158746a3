use Rattle.std.proofs.Common.{◌≡◌, ◌<◌, ◌≤◌, ℕ, ◌+◌, ◌*◌, ◌-◌, ◌^◌, arith, get_or}
use Rattle.std.specs.Char.{is_ascii_digit}
use Rattle.zt_text.proofs.NumberLemmas.{digit_small, refused, few_fit, next_fits, room_more, value_more, all_more, whole}
use Rattle.zt_text.proofs.numbers.few_digits.Goals as goal

pub overflow_mul-number : goal.overflow_mul-number
overflow_mul-number c =
    let low : c.loop-byte.byte-index < 19 = omega arith in
    let room : c.loop-byte.number * 10 + 0 < 2 ^ 64 = next_fits c.loop-byte.byte-index c.loop-byte.number 0 low c.loop-byte.invariant.small (omega arith) in
    omega arith

pub overflow_add-number : goal.overflow_add-number
overflow_add-number c =
    let low : c.loop-byte.byte-index < 19 = omega arith in
    let b : ℕ = get_or c.args.bytes.now c.loop-byte.byte-index 0 in
    let same : c.in_ok-digit.digit ≡ b - 48 = c.in_ok-digit.ensures.1 in
    let small : b - 48 ≤ 9 = digit_small b c.in_ok-digit.ensures.0 in
    let room : c.loop-byte.number * 10 + (b - 48) < 2 ^ 64 = next_fits c.loop-byte.byte-index c.loop-byte.number (b - 48) low c.loop-byte.invariant.small small in
    omega arith

pub returns-in_err-digit : goal.returns-in_err-digit
returns-in_err-digit c =
    rw c.from_residual.ensures (refused c.args.bytes.now c.loop-byte.byte-index c.loop-byte.number c.loop-byte-test.true c.loop-byte.invariant.value (λ h. c.in_err-digit.ensures h.0))

pub loop-byte-preserved : goal.loop-byte-preserved
loop-byte-preserved c =
    let b : ℕ = get_or c.args.bytes.now c.loop-byte.byte-index 0 in
    let same : c.in_ok-digit.digit ≡ b - 48 = c.in_ok-digit.ensures.1 in
    rw same (record {
      all = all_more is_ascii_digit c.args.bytes.now c.loop-byte.byte-index c.loop-byte-test.true c.loop-byte.invariant.all c.in_ok-digit.ensures.0;
      value = value_more c.args.bytes.now c.loop-byte.byte-index c.loop-byte.number c.loop-byte-test.true c.loop-byte.invariant.value c.in_ok-digit.ensures.0;
      small = room_more c.loop-byte.byte-index c.loop-byte.number (b - 48) c.loop-byte.invariant.small (digit_small b c.in_ok-digit.ensures.0);
    })

pub returns : goal.returns
returns c =
    let low : c.loop-byte.byte-index ≤ 19 = omega arith in
    whole c.args.bytes.now c.loop-byte.byte-index c.loop-byte.number c.loop-byte-test.false c.loop-byte.invariant.all c.loop-byte.invariant.value (few_fit c.loop-byte.byte-index c.loop-byte.number low c.loop-byte.invariant.small)
