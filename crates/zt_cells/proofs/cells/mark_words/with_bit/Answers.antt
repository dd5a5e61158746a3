use Rattle.zt_cells.proofs.BitLaws.{word-with}
use Rattle.zt_cells.proofs.cells.mark_words.with_bit.Goals as goal

pub returns : goal.returns
returns c = word-with c.args.word c.args.bit c.requires
