use Rattle.zt_text.proofs.SpelledLines.{line_spelled}
use Rattle.zt_text.proofs.laws.lines_have_the_words_of_what_they_ask.Goals as goal

pub returns : goal.returns
returns c = line_spelled
