-- The book begins in its session again, with clients to whom nothing was answered.
use Rattle.zt_book.proofs.RenewLaws.{book-renewed}
use Rattle.zt_book.proofs.book.Book.renew.Goals as goal

pub invariant_of-self : goal.invariant_of-self
invariant_of-self c =
    let d = c.self.inside in
    book-renewed d.all_clients c.renew.new.self d.log c.clear.new.self d.last c.renew.ensures c.clear.ensures c.self.invariant
