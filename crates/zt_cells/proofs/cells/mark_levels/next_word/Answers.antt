use Rattle.std.proofs.Common.{◌/◌, ◌+◌}
use Rattle.zt_cells.proofs.MarkLaws.{below-marked, next-above, no-next}
use Rattle.zt_cells.proofs.cells.mark_levels.next_word.Goals as goal

pub first_of-requires : goal.first_of-requires
first_of-requires c =
    below-marked c.args.groups.now c.args.words.now (c.args.from / 64 + 1) c.in-Some-next_from.group c.requires c.in-Some-next_from.ensures

pub returns-in-Some-next_from : goal.returns-in-Some-next_from
returns-in-Some-next_from c =
    next-above c.args.groups.now c.args.words.now c.args.from c.requires c.in_default.ensures c.in-Some-next_from.group c.first_of.result c.in-Some-next_from.ensures c.first_of.ensures

pub returns-in-None : goal.returns-in-None
returns-in-None c =
    no-next c.args.groups.now c.args.words.now c.args.from c.requires c.in_default.ensures c.in-None.ensures
