-- The book and the notes are of the text that was read. A file that cannot be read tells of no line.
use Rattle.zxtt.proofs.Loading.{some_noted, fresh_noted, no_line}
use Rattle.zxtt.proofs.files.load_noted.Goals as goal

pub returns-in-Err-clause-refused : goal.returns-in-Err-clause-refused
returns-in-Err-clause-refused c = no_line _ c.args.clients c.in-Err.ensures

pub returns-in-Err-read_rest-clause-refused : goal.returns-in-Err-read_rest-clause-refused
returns-in-Err-read_rest-clause-refused c = no_line _ c.args.clients c.in-Err-read_rest.ensures

pub returns-clause-loaded : goal.returns-clause-loaded
returns-clause-loaded c = some_noted c.noted_of.result c.args.clients _ c.noted_of.ensures.loaded

pub returns-clause-fresh : goal.returns-clause-fresh
returns-clause-fresh c = fresh_noted c.noted_of.result c.args.clients _ c.noted_of.ensures.clients c.noted_of.ensures.loaded
