use Rattle.zt_text.proofs.SpelledLines.{lines_differ}
use Rattle.zt_text.proofs.laws.lines_ask_different_things.Goals as goal

pub returns : goal.returns
returns c = lines_differ
