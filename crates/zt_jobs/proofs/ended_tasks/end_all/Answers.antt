use Rattle.std.proofs.Common.{ℕ, Bool, ap, ◌∙◌}
use Rattle.zt_rows.specs.State.{State, change}
use Rattle.zt_rows.specs.Tests.{among}
use Rattle.zt_jobs.specs.EndedTasks.{handles_of}
use Rattle.zt_jobs.specs.ProofsOnly.EndedTasks.{without_tables, without_waits}
use Rattle.zt_jobs.proofs.PartLaws.{parts}
use Rattle.zt_jobs.proofs.HandleLaws.{handles-ended}
use Rattle.zt_jobs.proofs.ended_tasks.end_all.Goals as goal

pub returns-clause-handles : goal.returns-clause-handles
returns-clause-handles c =
    let ending : ℕ → Bool = among c.args.members.now in
    c.in_ok-taken.ensures.handles
    ∙ ap (λ (s : State). handles_of s ending) c.in_ok-end_tasks.ensures.ok
    ∙ handles-ended c.args.step.now.current ending ending c.args.how

pub returns-clause-ended : goal.returns-clause-ended
returns-clause-ended c =
    let ending : ℕ → Bool = among c.args.members.now in
    c.in_ok-drop_waits.ensures.ok
    ∙ ap (change (without_waits ending)) (c.in_ok-taken.ensures.ok ∙ ap (change (without_tables ending)) c.in_ok-end_tasks.ensures.ok)
    ∙ parts c.args.step.now.current ending c.args.how
