use Rattle.std.proofs.Common.{◌/◌}
use Rattle.std.proofs.lemmas.Bool.{iff_false}
use Rattle.zt_cells.proofs.MarkLaws.{above-mark, above-mark_first}
use Rattle.zt_cells.proofs.cells.mark_levels.MarkLevels.mark.Goals as goal

pub invariant_of-self : goal.invariant_of-self
invariant_of-self c =
    (above-mark_first c.self.inside.words c.self.inside.numbers c.mark-then-mark.new.self c.mark.new.self c.args.index c.self.invariant.0 c.mark.ensures.marked c.mark-then-mark.ensures.marked, above-mark_first c.self.inside.groups c.self.inside.words c.mark-then-mark-2.new.self c.mark-then-mark.new.self (c.args.index / 64) c.self.invariant.1 c.mark-then-mark.ensures.marked c.mark-then-mark-2.ensures.marked)

pub invariant_of-self-else-mark-2 : goal.invariant_of-self-else-mark-2
invariant_of-self-else-mark-2 c =
    (above-mark_first c.self.inside.words c.self.inside.numbers c.mark-then-mark.new.self c.mark.new.self c.args.index c.self.invariant.0 c.mark.ensures.marked c.mark-then-mark.ensures.marked, above-mark c.self.inside.groups c.self.inside.words c.mark-then-mark.new.self (c.args.index / 64) c.self.invariant.1 c.mark-then-mark.ensures.marked (iff_false c.mark-then-mark.ensures.first c.if-mark-2.false))

pub invariant_of-self-else-mark : goal.invariant_of-self-else-mark
invariant_of-self-else-mark c =
    (above-mark c.self.inside.words c.self.inside.numbers c.mark.new.self c.args.index c.self.invariant.0 c.mark.ensures.marked (iff_false c.mark.ensures.first c.if-mark.false), c.self.invariant.1)
