use Rattle.zt_text.proofs.ShownLines.{words_read}
use Rattle.zt_text.proofs.laws.lines_read_back.Goals as goal

pub returns : goal.returns
returns c = words_read
