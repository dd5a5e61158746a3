use Rattle.zt_text.proofs.SpelledFields.{mask_spelled}
use Rattle.zt_text.proofs.laws.masks_are_spelled_as_shown.Goals as goal

pub returns : goal.returns
returns c = mask_spelled
