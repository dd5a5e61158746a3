-- The words of marks, be they few or many. Used by proofs only.
use Rattle.std.specs.Prelude.{ℕ, List, [], ◌∷◌}
use Rattle.zt_cells.specs.declared.cells.marks.Marks.{Marks}
use Rattle.zt_cells.specs.declared.cells.marks.Marks.TheVariants as marks

-- the words of the marks
abbrev pub words_in : Marks → List ℕ
words_in (marks.Few word) = word ∷ []
words_in (marks.Many levels) = levels.value
