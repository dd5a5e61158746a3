-- A talk with a book that is explored keeps its clients.
use Rattle.std.proofs.Common.{length, ◌∙◌, ap}
use Rattle.zt_book.specs.Log.{BookView}
use Rattle.zt_console.proofs.KeepLaws.{explored_clients}
use Rattle.zt_console.proofs.explorer.explore.Goals as goal

pub returns-in-Ok-clause-clients : goal.returns-in-Ok-clause-clients
returns-in-Ok-clause-clients g c =
    ap (λ (b : BookView). length b.session.clients) c.explorer.view_is ∙ explored_clients _ _ _ _ _ _ c.answer_all-explorer.ensures.talk

pub returns-in-Err-clause-clients : goal.returns-in-Err-clause-clients
returns-in-Err-clause-clients g c =
    ap (λ (b : BookView). length b.session.clients) c.explorer.view_is ∙ explored_clients _ _ _ _ _ _ c.answer_all-explorer.ensures.talk
