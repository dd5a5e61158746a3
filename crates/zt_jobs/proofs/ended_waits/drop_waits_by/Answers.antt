use Rattle.std.proofs.Common.{ℕ, sym, ap, subst}
use Rattle.zt_rows.specs.State.{State}
use Rattle.zt_store.specs.StepView.{Stepping}
use Rattle.zt_store.proofs.AheadLaws.{ahead-itself, ahead-then}
use Rattle.zt_jobs.proofs.PartLaws.{WaitsLeft, left-start, left-next, left-end}
use Rattle.zt_jobs.proofs.ended_waits.drop_waits_by.Goals as goal

pub waits-init : goal.waits-init
waits-init c = record {
  ahead = ahead-itself c.args.step.now;
  left = left-start c.args.step.now.current c.args.process c.wait_by-next.result (rw c.store.ensures at c.wait_by-next.ensures);
}

pub waits-preserved : goal.waits-preserved
waits-preserved c =
    let S : State = c.args.step.now.current in
    let p : ℕ = c.args.process in
    record {
      ahead = ahead-then c.args.step.now c.waits.step c.put.new.self c.waits.invariant.ahead (record { beginning = ap (λ (s : Stepping). s.beginning) c.in_ok-put.ensures.ok; kept = c.put.ensures.kept });
      left =
          subst (λ s. WaitsLeft S p s c.wait_by-next-in-Some.result) (sym (ap (λ (s : Stepping). s.current) c.in_ok-put.ensures.ok))
          (left-next S p c.waits.step.current c.waits.next c.wait_by-next-in-Some.result c.in-Some.number c.in-Some.is c.waits.invariant.left (rw c.store-in-Some.ensures at c.wait_by-next-in-Some.ensures));
    }

pub returns-clause-ok : goal.returns-clause-ok
returns-clause-ok c = left-end c.args.step.now.current c.args.process c.waits.step.current c.waits.next c.in_default.not-Some c.waits.invariant.left
