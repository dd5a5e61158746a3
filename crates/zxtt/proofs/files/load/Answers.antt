-- What is loaded is loaded of the text that was read. A file that cannot be read tells of no line.
use Rattle.zxtt.proofs.Loading.{some_loaded, some_fault, no_line, fresh_loaded, read_loaded, read_is_fresh}
use Rattle.zxtt.proofs.files.load.Goals as goal

pub returns-in-Err-clause-refused : goal.returns-in-Err-clause-refused
returns-in-Err-clause-refused c = no_line _ c.args.clients c.in-Err.ensures

pub returns-in-Some-clause-loaded : goal.returns-in-Some-clause-loaded
returns-in-Some-clause-loaded c = read_loaded c.in-Some.book c.args.clients _ _ c.in-Some.ensures.loaded

pub returns-in-Some-clause-fresh : goal.returns-in-Some-clause-fresh
returns-in-Some-clause-fresh c = read_is_fresh c.in-Some.book c.args.clients _ _ c.in-Some.ensures.clients c.in-Some.ensures.loaded

pub returns-in-Err-rewind-clause-refused : goal.returns-in-Err-rewind-clause-refused
returns-in-Err-rewind-clause-refused c = no_line _ c.args.clients c.in-Err-rewind.ensures

pub returns-in-Err-read_rest-clause-refused : goal.returns-in-Err-read_rest-clause-refused
returns-in-Err-read_rest-clause-refused c = no_line _ c.args.clients c.in-Err-read_rest.ensures

pub returns-clause-loaded : goal.returns-clause-loaded
returns-clause-loaded c = some_loaded c.book_of.result c.args.clients _ c.book_of.ensures.loaded

pub returns-clause-refused : goal.returns-clause-refused
returns-clause-refused c = some_fault c.book_of.result c.args.clients _ c.book_of.ensures.refused

pub returns-clause-fresh : goal.returns-clause-fresh
returns-clause-fresh c = fresh_loaded c.book_of.result c.args.clients _ c.book_of.ensures.clients c.book_of.ensures.loaded
