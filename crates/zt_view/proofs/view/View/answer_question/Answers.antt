use Rattle.std.proofs.Common.{inl, refl}
use Rattle.zt_view.proofs.AnswerLaws.{told_found}
use Rattle.zt_view.proofs.view.View.answer_question.Goals as goal

pub returns-in-Some : goal.returns-in-Some
returns-in-Some c = inl (
  c.in-Some.book,
  c.in-Some.is,
  told_found (λ text. text.items) c.args.self.now.start.bytes c.args.question c.in-Some.book c.found-found.result c.fill_found.new.response c.found-found.ensures.answer c.found-found.ensures.none c.fill_found.ensures.found c.fill_found.ensures.refused,
  (c.found-found.new.book, (refl, refl, refl, refl, refl, refl), c.found-found.ensures.standing),
)
