-- Each pass is a part of the log, which ends in the book's session, and there are no rows of others.
use Rattle.std.proofs.Common.{◌≡◌, ap, sym, ◌∙◌, subst}
use Rattle.zt_book.specs.Log.{Replays}
use Rattle.zt_shared.proofs.closed_book.close_book.Goals as goal

pub returns-clause-log : goal.returns-clause-log
returns-clause-log g c =
    let locked = c.agree_on_beginning.new.self in
    let log : c.into_book.result.log ≡ locked.log = c.into_book.ensures.log ∙ ap (λ d. d.log) c.agree_with_all.ensures.locked in
    record {
      parts = λ k d within. (locked.session, rw log (c.agree_with_all.ensures.parts k d within));
      others = c.into_book.ensures.others;
    }

pub returns-clause-end : goal.returns-clause-end
returns-clause-end g c =
    let locked = c.agree_on_beginning.new.self in
    let log : c.into_book.result.log ≡ locked.log = c.into_book.ensures.log ∙ ap (λ d. d.log) c.agree_with_all.ensures.locked in
    let end : c.into_book.result.session ≡ locked.session = c.into_book.ensures.session ∙ ap (λ d. d.session) c.agree_with_all.ensures.locked in
    λ k d within. rw (log, end) (c.agree_with_all.ensures.parts k d within).replays

pub returns-clause-begun : goal.returns-clause-begun
returns-clause-begun g c =
    let still = c.agree_with_all.ensures.locked ∙ c.agree_on_beginning.ensures.locked in
    let from = ap (λ d. d.base) still ∙ (sym c.agree_on_beginning.ensures.base ∙ ap (λ o. o.base) c.opened.view_is) in
    subst (λ M. Replays M c.into_book.result.log c.into_book.result.session) from c.into_book.ensures.replays
