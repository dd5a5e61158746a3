-- The members are the one set that the walk finds.
use Rattle.std.proofs.Common.{◌≡◌, ℕ, Bool, rules, sym, subst}
use Rattle.std.specs.Prelude.{IfOk, OnOk}
use Rattle.zt_rows.specs.State.{State}
use Rattle.zt_rows.specs.Tests.{among}
use Rattle.zt_rows.specs.End.{end}
use Rattle.zt_jobs.specs.EndedTasks.{handles_of}
use Rattle.zt_jobs.specs.EndingWalk.{IsWalkable}
use Rattle.zt_jobs.proofs.MemberLaws.{walk-same}
use Rattle.zt_jobs.proofs.ended_tasks.end_subtree.Goals as goal

pub returns-clause-handles : goal.returns-clause-handles
returns-clause-handles c = λ ending walks.
    let S : State = c.args.step.now.current in
    let found = subst (λ l. IsWalkable S c.args.job (among l)) (sym c.as_slice.ensures.value) c.in-Ok.ensures.members in
    let same : among c.as_slice.result.now ≡ ending = walk-same S c.args.job (among c.as_slice.result.now) ending found walks in
    subst (λ e. IfOk c.end_all-done.result (λ taken. taken.items ≡ handles_of S e)) same c.end_all-done.ensures.handles

pub returns-clause-ended : goal.returns-clause-ended
returns-clause-ended c = λ ending walks.
    let S : State = c.args.step.now.current in
    let found = subst (λ l. IsWalkable S c.args.job (among l)) (sym c.as_slice.ensures.value) c.in-Ok.ensures.members in
    let same : among c.as_slice.result.now ≡ ending = walk-same S c.args.job (among c.as_slice.result.now) ending found walks in
    let done : OnOk c.end_all-done.result (c.end_all-done.new.step.current ≡ (λ (e : ℕ → Bool). end S e c.args.how) ending) =
    subst (λ e. OnOk c.end_all-done.result (c.end_all-done.new.step.current ≡ end S e c.args.how)) same c.end_all-done.ensures.ended in
    search rules
