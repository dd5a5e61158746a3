use Rattle.std.proofs.Common.{◌<◌, ◌*◌, ◌∷◌, [], length, subst, sym, arith}
use Rattle.zt_cells.specs.declared.cells.marks.Marks.{Marks}
use Rattle.zt_cells.specs.ProofsOnly.MarkedNumbers.{IsMarkedAs}
use Rattle.zt_cells.specs.ProofsOnly.WordsOfMarks.{words_in}
use Rattle.zt_cells.proofs.MarkLaws.{one-marked}
use Rattle.zt_cells.proofs.cells.marks.Marks.mark.Goals as goal

pub returns-in-Few : goal.returns-in-Few
returns-in-Few c =
    let within = subst (λ (m : Marks). c.args.index < 64 * length (words_in m)) c.in-Few.is c.requires in
    subst (λ (m : Marks). IsMarkedAs (words_in m) (c.with_bit.result ∷ []) c.args.index 1) (sym c.in-Few.is) (one-marked _ c.with_bit.result c.args.index 1 (omega (arith, within)) c.with_bit.ensures)
