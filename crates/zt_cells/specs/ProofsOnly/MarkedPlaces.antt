-- Marks of the places with a row. Used by proofs only.
use Rattle.std.specs.Prelude.{◌≡◌, ◌≤◌, ◌*◌, ℕ, List, Option, Some, None, length}
use Rattle.zt_rows.specs.declared.rows.Row.{Row}
use Rattle.zt_cells.specs.declared.cells.marks.Marks.{Marks}
use Rattle.zt_cells.specs.ProofsOnly.MarkedNumbers.{mark}
use Rattle.zt_cells.specs.ProofsOnly.TablePlaces.{cell}
use Rattle.zt_cells.specs.ProofsOnly.WordsOfMarks.{words_in}

-- 1 for a row, and 0 for none
abbrev pub counted : Option Row → ℕ
counted (Some _) = 1
counted None = 0

-- the places with a row are marked, and there is room for the marks of all
pub record AreMarks (marks : Marks) (places : List (Option Row)) : Type 0 where
  pub marked : (n : ℕ) → mark (words_in marks) n ≡ counted (cell places n)
  pub room : length places ≤ 64 * length (words_in marks)
