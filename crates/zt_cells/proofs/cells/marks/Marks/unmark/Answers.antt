use Rattle.std.proofs.Common.{◌<◌, ◌*◌, ◌∷◌, [], length, subst, sym, arith}
use Rattle.zt_cells.specs.declared.cells.marks.Marks.{Marks}
use Rattle.zt_cells.specs.ProofsOnly.MarkedNumbers.{IsMarkedAs}
use Rattle.zt_cells.specs.ProofsOnly.WordsOfMarks.{words_in}
use Rattle.zt_cells.proofs.MarkLaws.{one-marked}
use Rattle.zt_cells.proofs.cells.marks.Marks.unmark.Goals as goal

pub returns-in-Few : goal.returns-in-Few
returns-in-Few c =
    let within = subst (λ (m : Marks). c.args.index < 64 * length (words_in m)) c.in-Few.is c.requires in
    subst (λ (m : Marks). IsMarkedAs (words_in m) (c.without_bit.result ∷ []) c.args.index 0) (sym c.in-Few.is) (one-marked _ c.without_bit.result c.args.index 0 (omega (arith, within)) c.without_bit.ensures.without)
