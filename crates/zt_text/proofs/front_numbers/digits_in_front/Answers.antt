use Rattle.std.proofs.Common.{◌≡◌, ◌<◌, ◌≤◌, ℕ, ◌+◌, ◌*◌, ◌-◌, ◌^◌, length, arith, get_or}
use Rattle.std.specs.Char.{is_ascii_digit}
use Rattle.zt_text.proofs.NumberLemmas.{digit_small, next_fits, room_more, value_more, all_more}
use Rattle.zt_text.proofs.front_numbers.digits_in_front.Goals as goal

pub overflow_mul-number : goal.overflow_mul-number
overflow_mul-number c =
    let low : c.loop-place.place < 19 = omega arith in
    let room : c.loop-place.number * 10 + 0 < 2 ^ 64 = next_fits c.loop-place.place c.loop-place.number 0 low c.loop-place.invariant.small (omega arith) in
    omega arith

pub overflow_add-number : goal.overflow_add-number
overflow_add-number c =
    let low : c.loop-place.place < 19 = omega arith in
    let b : ℕ = get_or c.args.bytes.now c.loop-place.place 0 in
    let same : c.in-Some.value ≡ b - 48 = c.in-Some.ensures.1 in
    let small : b - 48 ≤ 9 = digit_small b c.in-Some.ensures.0 in
    let room : c.loop-place.number * 10 + (b - 48) < 2 ^ 64 = next_fits c.loop-place.place c.loop-place.number (b - 48) low c.loop-place.invariant.small small in
    omega arith

pub loop-place-preserved : goal.loop-place-preserved
loop-place-preserved c =
    let b : ℕ = get_or c.args.bytes.now c.loop-place.place 0 in
    let same : c.in-Some.value ≡ b - 48 = c.in-Some.ensures.1 in
    let inside : c.loop-place.place < length c.args.bytes.now = omega arith in
    rw same (record {
      all = all_more is_ascii_digit c.args.bytes.now c.loop-place.place inside c.loop-place.invariant.all c.in-Some.ensures.0;
      value = value_more c.args.bytes.now c.loop-place.place c.loop-place.number inside c.loop-place.invariant.value c.in-Some.ensures.0;
      small = room_more c.loop-place.place c.loop-place.number (b - 48) c.loop-place.invariant.small (digit_small b c.in-Some.ensures.0);
    })
