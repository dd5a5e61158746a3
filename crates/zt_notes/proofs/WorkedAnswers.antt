-- Answers with notes and names, as theorems by computation.
use Rattle.std.proofs.Common.{◌≡◌, ℕ, List, [], ◌∷◌, ◌++◌, refl}
use Rattle.std.specs.Prelude.{codes, ⊤}
use Rattle.std.specs.Char.{encode_utf8}
use Rattle.std.specs.Str.{chars, is_utf8}
use Rattle.zt_text.specs.Numbers.{decimal_of}
use Rattle.zt_text.specs.Notes.{Noted, handle_named, is_name_text, name_in, name_of_subject, named_by, named_in, object_named}
use Rattle.zt_notes.specs.declared.shapes.Shape.{Shape}
use Rattle.zt_notes.specs.declared.shapes.Shape.TheVariants as shape
use Rattle.zt_notes.specs.Annotations.{annotated, shown_text}

unfoldable names_on_literals : ⊤
unfolding encode_utf8 chars is_utf8 decimal_of name_of_subject name_in named_in named_by object_named handle_named is_name_text
names_on_literals = tt

-- the lines with a line feed behind each
abbrev lines : List (List ℕ) → List ℕ
lines [] = []
lines (line ∷ others) = line ++ 10 ∷ lines others

-- a note of moment 1, the name of an object, and the names of two handles
abbrev example : Noted
example = record {
  notes = lines (codes "# line 5: echo" ∷ codes "# at 41.209" ∷ []) ∷ [];
  rest = [];
  names = lines (codes "# name 1030 worker" ∷ codes "# handle 1025 27 0x7c3e" ∷ codes "# handle 1030 3 job" ∷ []);
}

abbrev shown_as : Shape → List (List ℕ) → List ℕ
shown_as question answer = shown_text (annotated example question (lines answer))

record Answers : Type 0 where
  call : shown_as shape.Calls (codes "1 1025 spawn 3 0 => ok 27 1030" ∷ []) ≡ lines (codes "# line 5: echo" ∷ codes "# at 41.209" ∷ codes "1 1025 spawn 3 0 => ok 27 (0x7c3e) 1030 (worker)" ∷ [])
  list : shown_as shape.Calls (codes "2 1025 channel_write 7 - 11,27 => ok" ∷ []) ≡ lines (codes "2 1025 channel_write 7 - 11,27 (0x7c3e) => ok" ∷ [])
  row : shown_as shape.Changes (codes "+ entry 1030 3 1026 0x0003d203" ∷ []) ≡ lines (codes "+ entry 1030 (worker) 3 (job) 1026 0x0003d203" ∷ [])
  none : shown_as shape.Events [] ≡ []

answers : Answers
unfolding names_on_literals
answers = record { call = refl; list = refl; row = refl; none = refl }
