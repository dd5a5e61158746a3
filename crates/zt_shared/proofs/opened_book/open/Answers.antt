-- At the opening a book has all its clients, and no rows.
use Rattle.std.proofs.Common.{length, ap, ◌∙◌}
use Rattle.std.proofs.lemmas.List.{length-replicate}
use Rattle.zt_book.specs.Session.{first_client}
use Rattle.zt_shared.proofs.opened_book.open.Goals as goal

pub open_book-requires-clause-fresh : goal.open_book-requires-clause-fresh
open_book-requires-clause-fresh g c =
    let first = c.in-Ok.ensures.ok in
    record {
      many = ap (λ b. length b.session.clients) first ∙ (length-replicate c.blanks.inside.clients first_client ∙ ap (λ b. b.clients) c.blanks.view_is);
      empty = ap (λ b. b.log) first;
    }
