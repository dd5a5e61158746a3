use Rattle.std.proofs.Common.{◌<◌, ◌^◌, ℕ, Bool, Some, subst, arith}
use Rattle.zt_index.specs.Chains.{IsNext}
use Rattle.zt_index.specs.Criteria.{is_on, waits_where}
use Rattle.zt_cascade.proofs.WakingLaws.{fewer-left, longer-pushed, passed-end, passed-next}
use Rattle.zt_cascade.proofs.raised_waits.add_waits_on.Goals as goal

pub waits-smaller : goal.waits-smaller
waits-smaller c =
    let q : ℕ → Bool = (waits_where c.args.step.now.current (is_on c.args.process c.args.handle)) in
    let next : IsNext q c.waits.low (Some c.in-Some.number) = subst (IsNext q c.waits.low) c.in-Some.is (rw c.store.ensures at c.wait_on.ensures) in
    let few : c.in-Some.number < 2 ^ 64 = omega arith in
    fewer-left q c.waits.low c.in-Some.number few next

pub waits-preserved : goal.waits-preserved
waits-preserved c =
    let q : ℕ → Bool = (waits_where c.args.step.now.current (is_on c.args.process c.args.handle)) in
    let next : IsNext q c.waits.low (Some c.in-Some.number) = subst (IsNext q c.waits.low) c.in-Some.is (rw c.store.ensures at c.wait_on.ensures) in
    record {
      passed = passed-next q c.waits.low c.in-Some.number c.waits.list.items c.push.new.self.items c.in_ok-push.ensures.items next c.waits.invariant.passed;
      longer = λ n h. longer-pushed c.waits.list.items c.push.new.self.items c.in-Some.number c.in_ok-push.ensures.items n (c.waits.invariant.longer n h);
    }

pub returns-clause-listed : goal.returns-clause-listed
returns-clause-listed c =
    let q : ℕ → Bool = (waits_where c.args.step.now.current (is_on c.args.process c.args.handle)) in
    passed-end q c.waits.low c.wait_on.result c.waits.list.items (λ n e. c.in_default.not-Some n e) (rw c.store.ensures at c.wait_on.ensures) c.waits.invariant.passed
