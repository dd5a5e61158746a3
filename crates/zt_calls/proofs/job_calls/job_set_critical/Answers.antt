-- What the process's handle names is the row that is written.
use Rattle.std.proofs.Common.{rules, sym, ◌∙◌, subst}
use Rattle.zt_bits.specs.declared.statuses.Status.TheVariants as status
use Rattle.zt_rows.specs.Reads.{is_process}
use Rattle.zt_rows.specs.State.{State}
use Rattle.zt_store.specs.StepView.{Advanced}
use Rattle.zt_jobs.specs.CriticalTask.{with_critical}
use Rattle.zt_calls.proofs.JobCallLaws.{named-object}
use Rattle.zt_calls.proofs.job_calls.job_set_critical.Goals as goal

pub returns-clause-does : goal.returns-clause-does
returns-clause-does c =
    let S : State = c.args.step.now.current in
    let there = named-object S status.WrongType c.args.process c.args.critical is_process 0x4000 c.in_ok-held.held c.in_ok-held.object (sym c.handle_to-2.ensures ∙ c.in_ok-held.was) in
    let done = subst (λ r. Advanced c.args.step.now c.set_critical.new.step (with_critical S c.in_ok-held.held.koid c.in_ok-above.above.koid r)) there.1 c.in_ok-set_critical.ensures.ok in
    search rules
