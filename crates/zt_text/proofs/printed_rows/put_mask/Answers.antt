use Rattle.zt_text.proofs.ShownLemmas.{padded-hexadecimal}
use Rattle.zt_text.proofs.printed_rows.put_mask.Goals as goal

pub returns : goal.returns
returns c = rw (c.laid_out.ensures, c.in_radix.ensures, padded-hexadecimal 8 c.args.bits) at c.write.ensures.bytes
