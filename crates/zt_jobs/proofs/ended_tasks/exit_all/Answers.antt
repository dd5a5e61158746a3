use Rattle.std.proofs.Common.{ℕ, ap, ◌∙◌}
use Rattle.zt_rows.specs.declared.keys.RowKey.TheVariants as key
use Rattle.zt_rows.specs.State.{State}
use Rattle.zt_rows.specs.Tests.{among}
use Rattle.zt_jobs.specs.ProofsOnly.EndedTasks.{left_behind, with_life}
use Rattle.zt_jobs.proofs.PartLaws.{exit-parts}
use Rattle.zt_jobs.proofs.ended_tasks.exit_all.Goals as goal

pub returns-clause-ended : goal.returns-clause-ended
returns-clause-ended c =
    let S : State = c.args.step.now.current in
    let p : ℕ = c.args.process in
    c.in_ok-set_life.ensures.ok
    ∙ ap (λ (T : State). left_behind (with_life p c.args.how) T (key.Object p)) c.in_ok-taken.ensures.ended
    ∙ exit-parts S (among c.args.members.now) p c.args.how c.requires.member
