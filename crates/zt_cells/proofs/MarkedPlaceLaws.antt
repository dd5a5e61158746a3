-- Marks of the places with a row.
use Rattle.std.proofs.Common.{◌≡◌, ◌/◌, ℕ, zero, suc, List, [], ◌∷◌, Option, refl, sym, ap, ◌∙◌, arith}
use Rattle.zt_rows.specs.declared.rows.Row.{Row}
use Rattle.zt_cells.specs.declared.cells.marks.Marks.{Marks}
use Rattle.zt_cells.specs.ProofsOnly.MarkedNumbers.{mark, word}
use Rattle.zt_cells.specs.ProofsOnly.MarkedPlaces.{counted, AreMarks}
use Rattle.zt_cells.specs.ProofsOnly.TablePlaces.{cell}
use Rattle.zt_cells.specs.ProofsOnly.WordsOfMarks.{words_in}
use Rattle.zt_cells.proofs.MarkLaws.{mark-zero}

no-words : (k : ℕ) → word (0 ∷ []) k ≡ 0
no-words zero = refl
no-words (suc k) = refl

-- no place, and nothing marked
pub marks-none : (marks : Marks) (places : List (Option Row)) → words_in marks ≡ 0 ∷ [] → places ≡ [] → AreMarks marks places
marks-none marks places m p = record {
  marked = λ n. ap (λ t. mark t n) m ∙ mark-zero (0 ∷ []) n (no-words (n / 64)) ∙ ap (λ t. counted (cell t n)) (sym p);
  room = rw (p, m) (omega arith);
}
