use Rattle.std.proofs.lemmas.Nat.{and_le_l}
use Rattle.zt_cells.proofs.BitLaws.{word-without}
use Rattle.zt_cells.proofs.cells.mark_words.without_bit.Goals as goal

pub returns-clause-without : goal.returns-clause-without
returns-clause-without c = word-without c.args.word c.args.bit c.requires

pub returns-clause-less : goal.returns-clause-less
returns-clause-less c = and_le_l c.args.word _
