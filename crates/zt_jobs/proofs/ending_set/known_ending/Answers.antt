use Rattle.std.proofs.Common.{sym, ◌∙◌}
use Rattle.zt_jobs.specs.ProofsOnly.FoundKoids.{found}
use Rattle.zt_jobs.proofs.MemberLaws.{walk-start, walk-next, walk-end}
use Rattle.zt_jobs.proofs.ending_set.known_ending.Goals as goal

pub loop-init : goal.loop-init
loop-init c =
    walk-start c.args.step.now.current c.args.task (found c.new-known.result) (found c.note.new.known) c.new-waiting.result.items c.note.new.waiting.items
    c.new-known.ensures
    c.new-waiting.ensures.items c.in_ok-note.ensures.known c.in_ok-note.ensures.noted

pub loop-preserved : goal.loop-preserved
loop-preserved c =
    walk-next c.args.step.now.current c.args.task c.in-Some.at (found c.loop.known) (found c.add_next.new.known)
    c.loop.waiting.items c.pop.new.self.items c.add_next.new.waiting.items c.loop.invariant c.in-Some.ensures.items
    c.in_ok-add_next.ensures.known c.in_ok-add_next.ensures.noted

pub returns-in_default : goal.returns-in_default
returns-in_default c =
    walk-end c.args.step.now.current c.args.task (found c.loop.known) c.loop.waiting.items c.loop.invariant
    (sym c.loop.waiting.ok.0 ∙ c.in_default.ensures.cases.0)
