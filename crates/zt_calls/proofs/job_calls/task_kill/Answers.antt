-- What the walk from the process or job finds is what ends with it.
use Rattle.std.proofs.Common.{◌≡◌, true, rules, sym, ◌∙◌}
use Rattle.zt_rows.specs.Reads.{is_live}
use Rattle.zt_rows.specs.End.{ends_with}
use Rattle.zt_bits.specs.declared.statuses.Status.TheVariants as status
use Rattle.zt_calls.proofs.JobCallLaws.{named-walkable}
use Rattle.zt_calls.proofs.job_calls.task_kill.Goals.{then-eq+in_ok-released, else-eq}
use Rattle.zt_calls.proofs.job_calls.task_kill.Goals as goal

pub returns-clause-does : goal.returns-clause-does
returns-clause-does c =
    elim c.if-eq.branch [
      | then-eq+in_ok-released w ↦
          let lives : is_live c.in_ok-held.task.life ≡ true = search rules in
          let done = w.in_ok-released.ensures.ended (ends_with c.args.step.now.current c.in_ok-held.held.koid)
          (named-walkable c.args.step.now.current c.requires.sound status.WrongType c.args.process c.args.handle 0x200 c.in_ok-held.held c.in_ok-held.task
          (sym c.handle_to.ensures ∙ c.in_ok-held.was) lives) in
          search rules
      | else-eq w ↦ search rules
    ]
