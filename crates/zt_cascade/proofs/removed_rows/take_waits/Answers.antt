use Rattle.std.proofs.Common.{Some, subst}
use Rattle.std.specs.Prelude.{None}
use Rattle.zt_index.specs.Chains.{IsNext}
use Rattle.zt_index.specs.Criteria.{is_for, waits_where}
use Rattle.zt_store.proofs.AheadLaws.{ahead-then}
use Rattle.zt_cascade.proofs.TakingLaws.{waits-step, waits-end}
use Rattle.zt_cascade.proofs.removed_rows.take_waits.Goals as goal

pub waits-smaller : goal.waits-smaller
waits-smaller c =
    let found : IsNext (waits_where c.waits.step.current (is_for c.args.koid)) None (Some c.in-Some.number) = subst (IsNext (waits_where c.waits.step.current (is_for c.args.koid)) None) c.in-Some.is (rw c.store.ensures at c.wait_for.ensures) in
    (waits-step c.args.koid c.in-Some.number c.args.step.now.current c.waits.step.current c.change.new.step.current found c.waits.invariant.partly c.in_ok-change.ensures.ok).1

pub waits-preserved : goal.waits-preserved
waits-preserved c =
    let found : IsNext (waits_where c.waits.step.current (is_for c.args.koid)) None (Some c.in-Some.number) = subst (IsNext (waits_where c.waits.step.current (is_for c.args.koid)) None) c.in-Some.is (rw c.store.ensures at c.wait_for.ensures) in
    record {
      ahead = ahead-then c.args.step.now c.waits.step c.change.new.step c.waits.invariant.ahead c.change.ensures.ahead;
      partly = (waits-step c.args.koid c.in-Some.number c.args.step.now.current c.waits.step.current c.change.new.step.current found c.waits.invariant.partly c.in_ok-change.ensures.ok).0;
    }

pub returns-clause-waits : goal.returns-clause-waits
returns-clause-waits c = waits-end c.args.koid c.waits.step.current c.wait_for.result (λ n e. c.in_default.not-Some n e) (rw c.store.ensures at c.wait_for.ensures)
