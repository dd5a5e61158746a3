use Rattle.std.proofs.Common.{IfOk, subst, sym}
use Rattle.zt_view.specs.Questions.{IsAnswer}
use Rattle.zt_view.proofs.question.lines_of.Goals as goal

pub returns-in-Object-clause-answer : goal.returns-in-Object-clause-answer
returns-in-Object-clause-answer c =
    subst (λ q. IfOk c.object_lines.result (λ text. IsAnswer q c.args.history.now.tree text.items)) (sym c.in-Object.is) c.object_lines.ensures.answer

pub returns-in-Events-clause-answer : goal.returns-in-Events-clause-answer
returns-in-Events-clause-answer c =
    subst (λ q. IfOk c.event_lines.result (λ text. IsAnswer q c.args.history.now.tree text.items)) (sym c.in-Events.is) c.event_lines.ensures.answer
