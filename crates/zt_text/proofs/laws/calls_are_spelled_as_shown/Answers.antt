use Rattle.zt_text.proofs.SpelledLines.{call_line_spelled}
use Rattle.zt_text.proofs.laws.calls_are_spelled_as_shown.Goals as goal

pub returns : goal.returns
returns c = call_line_spelled
