use Rattle.std.proofs.Common.{◌/◌}
use Rattle.std.proofs.lemmas.Bool.{iff_false}
use Rattle.zt_cells.proofs.MarkLaws.{above-unmark, above-unmark_last}
use Rattle.zt_cells.proofs.cells.mark_levels.MarkLevels.unmark.Goals as goal

pub invariant_of-self : goal.invariant_of-self
invariant_of-self c =
    (above-unmark_last c.self.inside.words c.self.inside.numbers c.unmark-then-unmark.new.self c.unmark.new.self c.args.index c.self.invariant.0 c.unmark.ensures.marked (c.unmark.ensures.last.0 c.if-unmark.true) c.unmark-then-unmark.ensures.marked, above-unmark_last c.self.inside.groups c.self.inside.words c.unmark-then-unmark-2.new.self c.unmark-then-unmark.new.self (c.args.index / 64) c.self.invariant.1 c.unmark-then-unmark.ensures.marked (c.unmark-then-unmark.ensures.last.0 c.if-unmark-2.true) c.unmark-then-unmark-2.ensures.marked)

pub invariant_of-self-else-unmark-2 : goal.invariant_of-self-else-unmark-2
invariant_of-self-else-unmark-2 c =
    (above-unmark_last c.self.inside.words c.self.inside.numbers c.unmark-then-unmark.new.self c.unmark.new.self c.args.index c.self.invariant.0 c.unmark.ensures.marked (c.unmark.ensures.last.0 c.if-unmark.true) c.unmark-then-unmark.ensures.marked, above-unmark c.self.inside.groups c.self.inside.words c.unmark-then-unmark.new.self (c.args.index / 64) c.self.invariant.1 c.unmark-then-unmark.ensures.marked c.unmark-then-unmark.ensures.less (iff_false c.unmark-then-unmark.ensures.last c.if-unmark-2.false))

pub invariant_of-self-else-unmark : goal.invariant_of-self-else-unmark
invariant_of-self-else-unmark c =
    (above-unmark c.self.inside.words c.self.inside.numbers c.unmark.new.self c.args.index c.self.invariant.0 c.unmark.ensures.marked c.unmark.ensures.less (iff_false c.unmark.ensures.last c.if-unmark.false), c.self.invariant.1)
