use Rattle.std.proofs.Common.{arith}
use Rattle.std.proofs.lemmas.Bool.Decides.{nat_tests}
use Rattle.zt_text.proofs.Places.{first_place, no_place}
use Rattle.zt_text.proofs.separator.first_behind.Goals as goal

pub returns-then-bytes-place-clause-at : goal.returns-then-bytes-place-clause-at
returns-then-bytes-place-clause-at c =
    first_place c.args.separator c.args.bytes.now c.loop-place.place (omega arith) c.loop-place.invariant (grind (arith, nat_tests))

pub returns-clause-at : goal.returns-clause-at
returns-clause-at c = no_place c.args.separator c.args.bytes.now (λ k low below. c.loop-place.invariant k low (omega arith))
