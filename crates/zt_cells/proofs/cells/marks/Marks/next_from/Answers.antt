use Rattle.std.proofs.Common.{◌≡◌, ◌≤◌, ℕ, subst, sym}
use Rattle.zt_cells.specs.declared.cells.marks.Marks.{Marks}
use Rattle.zt_cells.specs.ProofsOnly.MarkedNumbers.{mark, IsNextMark}
use Rattle.zt_cells.specs.ProofsOnly.WordsOfMarks.{words_in}
use Rattle.zt_cells.proofs.MarkLaws.{one-next, one-past}
use Rattle.zt_cells.proofs.cells.marks.Marks.next_from.Goals as goal

pub returns-in-Few : goal.returns-in-Few
returns-in-Few c =
    subst (λ (m : Marks). IsNextMark (words_in m) c.args.from c.lowest_from.result) (sym c.in-Few.is) (one-next c.in-Few.word c.args.from c.if-from-lt64.true c.lowest_from.result c.lowest_from.ensures)

pub returns-in-Few-2 : goal.returns-in-Few-2
returns-in-Few-2 c =
    subst (λ (m : Marks). (n : ℕ) → c.args.from ≤ n → mark (words_in m) n ≡ 0) (sym c.in-Few-2.is) (one-past c.in-Few-2.field-0 c.args.from c.if-from-lt64.false)
