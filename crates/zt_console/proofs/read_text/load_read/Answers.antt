-- The book is that of the calls of the text that was read.
use Rattle.zt_console.proofs.ReadLaws.{book_read}
use Rattle.zt_console.proofs.read_text.load_read.Goals as goal

pub returns-in-Ok-clause-loaded : goal.returns-in-Ok-clause-loaded
returns-in-Ok-clause-loaded g c =
    book_read c.args.clients _ _ c.in-Some.row c.in-Ok.book c.calls_one_by_one_are_those_of_the_text.ensures.saved c.in-Some.ensures c.in-Ok.ensures.ok c.in-Ok.ensures.first
