-- Nothing was answered yet.
use Rattle.zt_book.proofs.BookLaws.{book-begun}
use Rattle.zt_book.proofs.book.begin.Goals as goal

pub invariant_of-result : goal.invariant_of-result
invariant_of-result c = book-begun c.args.all_clients c.new-log.result c.requires c.new-log.ensures
