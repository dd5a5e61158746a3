use Rattle.zt_text.proofs.SpelledFields.{decimal_spelled, code_spelled}
use Rattle.zt_text.proofs.laws.numbers_are_spelled_as_shown.Goals as goal

pub returns : goal.returns
returns c = record { decimals = decimal_spelled; codes = code_spelled }
