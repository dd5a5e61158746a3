use Rattle.zt_cells.proofs.BitLaws.{none-from, lowest-from}
use Rattle.zt_cells.proofs.cells.mark_words.lowest_from.Goals as goal

pub returns-then-rest-eq0 : goal.returns-then-rest-eq0
returns-then-rest-eq0 c = none-from c.args.word c.args.low c.if-rest-eq0.true

pub returns-else-rest-eq0 : goal.returns-else-rest-eq0
returns-else-rest-eq0 c =
    lowest-from c.args.word c.args.low c.lowest.result c.ranges.word.fits c.lowest.ensures.set c.lowest.ensures.first
