use Rattle.std.proofs.Common.{◌∙◌, inl, inr, refl, sym}
use Rattle.zt_view.proofs.AnswerLaws.{told_talk}
use Rattle.zt_view.proofs.view.View.answer_lines.Goals as goal

pub returns-in-Some : goal.returns-in-Some
returns-in-Some c = inl (
  c.in-Some.book,
  c.talk-book.result.0,
  sym c.take.ensures.value ∙ c.in-Some.is,
  (refl, refl, refl, refl, refl, refl),
  told_talk (λ text. text.items) c.args.self.now.start.bytes c.in-Some.book c.talk-book.result.0 c.args.lines.now c.talk-book.result.1 c.fill_talk.new.response c.talk-book.ensures.whole c.talk-book.ensures.part c.fill_talk.ensures.told c.fill_talk.ensures.stopped,
)

pub returns-in-None : goal.returns-in-None
returns-in-None c =
    let none = sym c.take.ensures.value ∙ c.in-None.is in
    inr (none, (c.refuse.ensures, (c.take.ensures.after ∙ sym none, refl, refl, refl, refl, refl)))
