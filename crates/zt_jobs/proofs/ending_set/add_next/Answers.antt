use Rattle.std.proofs.Common.{◌||◌, ap, ◌∙◌}
use Rattle.zt_jobs.specs.ProofsOnly.FoundKoids.{found}
use Rattle.zt_rows.specs.State.{State}
use Rattle.zt_rows.proofs.RowLaws.{or_left}
use Rattle.zt_store.specs.KoidSets.{only}
use Rattle.zt_jobs.specs.EndingWalk.{is_child_in, is_critical_to}
use Rattle.zt_jobs.proofs.BelowLaws.{or-assoc}
use Rattle.zt_jobs.proofs.MemberLaws.{noted_then}
use Rattle.zt_jobs.proofs.ending_set.add_next.Goals as goal

pub returns-clause-known : goal.returns-clause-known
returns-clause-known c = λ x.
    let S : State = c.args.step.now.current in
    c.in_ok-add_critical.ensures.known x
    ∙ ap (λ b. b || is_critical_to S c.args.task x) (c.in_ok-add_below.ensures.known x)
    ∙ or-assoc (found c.args.known.now x) (is_child_in S (only c.args.task) x) (is_critical_to S c.args.task x)

pub returns-clause-noted : goal.returns-clause-noted
returns-clause-noted c =
    noted_then (found c.args.known.now) (found c.add_below.new.known) (found c.add_critical.new.known)
    c.args.waiting.now.items c.add_below.new.waiting.items c.add_critical.new.waiting.items c.in_ok-add_below.ensures.noted c.in_ok-add_critical.ensures.noted
    (λ x e. c.in_ok-add_critical.ensures.known x ∙ or_left (found c.add_below.new.known x) _ e)
