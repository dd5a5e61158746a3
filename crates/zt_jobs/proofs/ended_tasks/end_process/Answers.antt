-- The members are the one set that the walk finds.
use Rattle.std.proofs.Common.{◌≡◌, ℕ, Bool, rules, sym, subst}
use Rattle.std.specs.Prelude.{IfOk, OnOk, ◌==◌}
use Rattle.zt_rows.specs.State.{State}
use Rattle.zt_rows.specs.Tests.{among}
use Rattle.zt_rows.specs.declared.rows.Life.TheVariants as life
use Rattle.zt_rows.specs.End.{end}
use Rattle.zt_jobs.specs.EndedTasks.{handles_of}
use Rattle.zt_jobs.specs.EndingWalk.{IsWalkable, all_but}
use Rattle.zt_jobs.proofs.MemberLaws.{walk-same}
use Rattle.zt_jobs.proofs.ended_tasks.end_process.Goals as goal

pub returns-clause-handles : goal.returns-clause-handles
returns-clause-handles c = λ ending walks.
    let S : State = c.args.step.now.current in
    let found = subst (λ l. IsWalkable S c.args.process (among l)) (sym c.as_slice.ensures.value) c.in-Ok.ensures.members in
    let same : among c.as_slice.result.now ≡ ending = walk-same S c.args.process (among c.as_slice.result.now) ending found walks in
    subst (λ e. IfOk c.exit_all-done.result (λ taken. taken.items ≡ handles_of S e)) same c.exit_all-done.ensures.handles

pub returns-clause-ended : goal.returns-clause-ended
returns-clause-ended c = λ ending walks.
    let S : State = c.args.step.now.current in
    let found = subst (λ l. IsWalkable S c.args.process (among l)) (sym c.as_slice.ensures.value) c.in-Ok.ensures.members in
    let same : among c.as_slice.result.now ≡ ending = walk-same S c.args.process (among c.as_slice.result.now) ending found walks in
    let done : OnOk c.exit_all-done.result (c.exit_all-done.new.step.current ≡ (λ (e : ℕ → Bool). end (end S (λ x. x == c.args.process) c.args.how) (all_but c.args.process e) life.Killed) ending) =
    subst (λ e. OnOk c.exit_all-done.result (c.exit_all-done.new.step.current ≡ end (end S (λ x. x == c.args.process) c.args.how) (all_but c.args.process e) life.Killed)) same c.exit_all-done.ensures.ended in
    search rules
