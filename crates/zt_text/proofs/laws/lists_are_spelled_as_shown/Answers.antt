use Rattle.zt_text.proofs.SpelledFields.{handles_spelled}
use Rattle.zt_text.proofs.laws.lists_are_spelled_as_shown.Goals as goal

pub returns : goal.returns
returns c = handles_spelled
