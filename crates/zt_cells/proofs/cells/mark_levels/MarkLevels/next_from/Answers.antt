use Rattle.std.proofs.Common.{◌≡◌, ◌≤◌, ◌+◌, ◌/◌, ℕ, subst}
use Rattle.zt_cells.specs.ProofsOnly.MarkedNumbers.{mark, IsNextAt}
use Rattle.zt_cells.proofs.MarkLaws.{below-marked, next-above, no-next}
use Rattle.zt_cells.proofs.cells.mark_levels.MarkLevels.next_from.Goals as goal

pub first_of-requires : goal.first_of-requires
first_of-requires c =
    below-marked c.self.inside.words c.self.inside.numbers (c.args.from / 64 + 1) c.in-Some-next_word.word c.self.invariant.0 c.in-Some-next_word.ensures

pub returns-in-Some-next_word : goal.returns-in-Some-next_word
returns-in-Some-next_word c =
    subst (λ t. IsNextAt t c.args.from c.first_of.result) c.self.view_is
    (next-above c.self.inside.words c.self.inside.numbers c.args.from c.self.invariant.0 c.in_default.ensures c.in-Some-next_word.word c.first_of.result c.in-Some-next_word.ensures c.first_of.ensures)

pub returns-in-None : goal.returns-in-None
returns-in-None c =
    subst (λ t. (n : ℕ) → c.args.from ≤ n → mark t n ≡ 0) c.self.view_is
    (no-next c.self.inside.words c.self.inside.numbers c.args.from c.self.invariant.0 c.in_default.ensures c.in-None.ensures)
