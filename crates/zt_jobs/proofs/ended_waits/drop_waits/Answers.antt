use Rattle.std.proofs.Common.{◌+◌, ℕ, take, ap, ◌∙◌, refl}
use Rattle.zt_rows.specs.State.{State, change}
use Rattle.zt_rows.specs.Tests.{among}
use Rattle.zt_store.specs.KoidSets.{only}
use Rattle.zt_store.proofs.AheadLaws.{ahead-itself, ahead-then}
use Rattle.zt_jobs.specs.ProofsOnly.EndedTasks.{without_waits}
use Rattle.zt_jobs.proofs.PartLaws.{among-item, waits-more, waits-nothing}
use Rattle.zt_jobs.proofs.ended_waits.drop_waits.Goals as goal

pub loop-koid-init : goal.loop-koid-init
loop-koid-init c = record {
  ahead = ahead-itself c.args.step.now;
  rest = waits-nothing c.args.step.now.current (among (take 0 c.args.members.now)) (λ y. refl);
}

pub loop-koid-preserved : goal.loop-koid-preserved
loop-koid-preserved c =
    let S : State = c.args.step.now.current in
    let i : ℕ = c.loop-koid.koid-index in
    let m : ℕ = c.koid-item.result in
    record {
      ahead = ahead-then c.args.step.now c.loop-koid.step c.drop_waits_by.new.step c.loop-koid.invariant.ahead c.drop_waits_by.ensures.ahead;
      rest =
          c.in_ok-drop_waits_by.ensures.ok
          ∙ ap (change (without_waits (only m))) c.loop-koid.invariant.rest
          ∙ waits-more S (among (take i c.args.members.now)) (among (take (i + 1) c.args.members.now)) m
          (among-item c.args.members.now i m c.loop-koid-test.true c.koid-item.is);
    }
