-- The clients stand at the opening, and nothing was answered to them.
use Rattle.std.proofs.Common.{◌∙◌, ap, arith}
use Rattle.zt_history.specs.Timeline.{Timeline}
use Rattle.zt_book.specs.Log.{book_at}
use Rattle.zt_book.specs.Session.{session_over}
use Rattle.zt_book.proofs.BegunLaws.{opening-begun}
use Rattle.zt_book.proofs.book.Book.new.Goals as goal

pub begin-requires : goal.begin-requires
begin-requires c =
    opening-begun c.in_ok-all_clients.all_clients.session c.args.clients (omega arith)
    (c.in_ok-all_clients.ensures ∙ ap (λ (h : Timeline). session_over h.tree c.args.clients) c.in_ok-history.ensures)

pub returns-clause-ok : goal.returns-clause-ok
returns-clause-ok c =
    c.begin.ensures ∙ ap book_at (c.in_ok-all_clients.ensures ∙ ap (λ (h : Timeline). session_over h.tree c.args.clients) c.in_ok-history.ensures)
