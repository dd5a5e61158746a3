use Rattle.zt_cells.proofs.MarkLaws.{marked-seen}
use Rattle.zt_cells.proofs.cells.mark_words.MarkWords.mark.Goals as goal

pub returns-clause-marked : goal.returns-clause-marked
returns-clause-marked c =
    marked-seen c.self.inside.words.items c.args.self.now c.args.index c.index_mut-word.result.now c.with_bit.result 1 c.self.view_is c.requires c.index_mut-word.ensures.value c.with_bit.ensures
