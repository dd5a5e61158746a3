use Rattle.std.proofs.Common.{◌+◌, ℕ, take, refl, ap, ◌∙◌}
use Rattle.zt_rows.specs.State.{State, change}
use Rattle.zt_rows.specs.Tests.{among}
use Rattle.zt_store.specs.KoidSets.{only}
use Rattle.zt_store.proofs.AheadLaws.{ahead-itself, ahead-then}
use Rattle.zt_jobs.specs.ProofsOnly.EndedTasks.{with_end}
use Rattle.zt_jobs.proofs.PartLaws.{among-item, end-nothing, end-one, end-more}
use Rattle.zt_jobs.proofs.ended_tasks.end_tasks.Goals as goal

pub loop-koid-init : goal.loop-koid-init
loop-koid-init c = record {
  ahead = ahead-itself c.args.step.now;
  ended = end-nothing c.args.step.now.current (among (take 0 c.args.members.now)) c.args.how (λ y. refl);
}

pub loop-koid-preserved : goal.loop-koid-preserved
loop-koid-preserved c =
    let S : State = c.args.step.now.current in
    let i : ℕ = c.loop-koid.koid-index in
    let m : ℕ = c.koid-item.result in
    record {
      ahead = ahead-then c.args.step.now c.loop-koid.step c.end_task.new.step c.loop-koid.invariant.ahead c.end_task.ensures.ahead;
      ended =
          c.in_ok-end_task.ensures.ok
          ∙ end-one c.loop-koid.step.current c.args.how m
          ∙ ap (change (with_end (only m) c.args.how)) c.loop-koid.invariant.ended
          ∙ end-more S (among (take i c.args.members.now)) (among (take (i + 1) c.args.members.now)) c.args.how m
          (among-item c.args.members.now i m c.loop-koid-test.true c.koid-item.is);
    }
