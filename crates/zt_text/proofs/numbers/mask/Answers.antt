use Rattle.std.proofs.Common.{sym, ◌∙◌}
use Rattle.zt_text.proofs.NumberLemmas.{mask_is, mask_digits}
use Rattle.zt_text.proofs.numbers.mask.Goals as goal

pub returns : goal.returns
returns c =
    mask_is c.args.bytes.now c.hex_digits.result c.if-bytes-ne10.false (sym c.starts_with.ensures.value ∙ c.if-not-starts_with.false)
    (rw (mask_digits c.args.bytes.now c.if-bytes-ne10.false) at c.hex_digits.ensures)
