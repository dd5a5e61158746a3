use Rattle.std.proofs.Common.{w64}
use Rattle.std.proofs.lemmas.Nat.Bits.{bit_at-trailing_zeros}
use Rattle.zt_cells.proofs.cells.mark_words.lowest.Goals as goal

pub returns-clause-set : goal.returns-clause-set
returns-clause-set c = (bit_at-trailing_zeros w64 c.args.word c.requires c.ranges.word.fits).1

pub returns-clause-first : goal.returns-clause-first
returns-clause-first c = (bit_at-trailing_zeros w64 c.args.word c.requires c.ranges.word.fits).2
