-- The fault of the text is that of some text.
use Rattle.zxtt.proofs.Loading.{told}
use Rattle.zxtt.proofs.files.noted_of.Goals as goal

pub returns-in-Err-clause-refused : goal.returns-in-Err-clause-refused
returns-in-Err-clause-refused c = told c.in-Err.fault c.args.clients c.args.text.now c.in-Err.ensures.refused
