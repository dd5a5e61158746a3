-- A talk with a book that is heard keeps its clients.
use Rattle.std.proofs.Common.{length, ◌∙◌, ap}
use Rattle.zt_book.specs.Log.{BookView}
use Rattle.zt_console.proofs.KeepLaws.{talked_clients}
use Rattle.zt_console.proofs.book_run.run_heard.Goals as goal

pub returns-in-Ok-clause-clients : goal.returns-in-Ok-clause-clients
returns-in-Ok-clause-clients g c =
    ap (λ (b : BookView). length b.session.clients) c.heard.view_is ∙ talked_clients _ _ _ _ _ _ c.answer_all-heard.ensures.talk

pub returns-in-Err-clause-clients : goal.returns-in-Err-clause-clients
returns-in-Err-clause-clients g c =
    ap (λ (b : BookView). length b.session.clients) c.heard.view_is ∙ talked_clients _ _ _ _ _ _ c.answer_all-heard.ensures.talk
