-- The book and the notes are of the text that was read.
use Rattle.zxtt.proofs.Loading.{some_noted}
use Rattle.zxtt.proofs.files.load_input_noted.Goals as goal

pub returns-clause-loaded : goal.returns-clause-loaded
returns-clause-loaded c = some_noted c.noted_of.result c.args.clients _ c.noted_of.ensures.loaded
