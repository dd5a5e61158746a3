use Rattle.std.proofs.Common.{ℕ, get_or, refl, arith}
use Rattle.std.specs.BTreeSet.{contains}
use Rattle.std.specs.Ordering.{nat_cmp}
use Rattle.zt_jobs.proofs.FoundLaws.{inserted, with_next}
use Rattle.zt_jobs.proofs.found_koids.with_all.Goals as goal

pub loop-number-preserved : goal.loop-number-preserved
loop-number-preserved c = λ x.
    let number : ℕ = get_or c.args.numbers.now c.loop-number.number-index 0 in
    with_next c.args.numbers.now c.loop-number.number-index number x 0 (contains nat_cmp c.loop-number.set x) (contains nat_cmp c.insert.new.self x) (contains nat_cmp c.args.set x)
    (omega arith) (c.loop-number.invariant x) refl
    (inserted number x (contains nat_cmp c.loop-number.set x) (contains nat_cmp c.insert.new.self x) (c.in_ok-insert.ensures.updates.0 x))
