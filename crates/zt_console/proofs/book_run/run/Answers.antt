-- A talk with a book keeps its clients.
use Rattle.zt_console.proofs.KeepLaws.{talked_clients}
use Rattle.zt_console.proofs.book_run.run.Goals as goal

pub returns-in-Ok-clause-clients : goal.returns-in-Ok-clause-clients
returns-in-Ok-clause-clients g c = talked_clients _ _ _ _ _ _ c.answer_all-book.ensures.talk

pub returns-in-Err-clause-clients : goal.returns-in-Err-clause-clients
returns-in-Err-clause-clients g c = talked_clients _ _ _ _ _ _ c.answer_all-book.ensures.talk
