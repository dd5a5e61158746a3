-- The lines of an answer with what is added to them: a note ahead of a line that shows a call, and a name behind what has one.
use Rattle.std.specs.Prelude.{ℕ, List, [], ◌∷◌, ◌++◌, map, Option, None, Some}
use Rattle.std.specs.List.{join_with_byte}
use Rattle.std.specs.Option.{option_and_then}
use Rattle.zt_text.specs.Fields.{fields_of, parts_of}
use Rattle.zt_text.specs.Numbers.{handle_of, koid_of}
use Rattle.zt_notes.specs.declared.shapes.Field.{Field}
use Rattle.zt_notes.specs.declared.shapes.Field.TheVariants as field
use Rattle.zt_notes.specs.declared.shapes.Shape.{Shape}
use Rattle.zt_notes.specs.Cuts.{before, behind}
use Rattle.zt_notes.specs.Walks.{Walk, moment_shown, next_field, start}
use Rattle.zt_notes.specs.Walks as walks
use Rattle.zt_text.specs.Notes.{Noted, name_of_subject, note_at}
use Rattle.zt_text.specs.declared.name_lines.Subject.TheVariants as subject

-- ---- names

-- the name of the object whose koid this is
abbrev pub koid_name_of : Noted → List ℕ → Option (List ℕ)
koid_name_of notes element = option_and_then (λ koid. name_of_subject notes (subject.Object koid)) (koid_of element)

-- the name of a process's handle whose value this is
abbrev pub handle_name_of : Noted → ℕ → List ℕ → Option (List ℕ)
handle_name_of notes process element = option_and_then (λ handle. name_of_subject notes (subject.Handle process handle)) (handle_of element)

-- the name of what an element of a field tells; a colon stands between a koid and rights, and ahead of the koid of a job
abbrev pub name_of : Noted → ℕ → Field → List ℕ → Option (List ℕ)
name_of notes process field.Object element = koid_name_of notes element
name_of notes process field.Process element = koid_name_of notes element
name_of notes process field.Origin element = koid_name_of notes element
name_of notes process field.Handle element = handle_name_of notes process element
name_of notes process field.Held element = koid_name_of notes (before 58 element)
name_of notes process field.Critical element = option_and_then (koid_name_of notes) (behind 58 element)
name_of notes process _ element = None

-- a space, and the name in parentheses
abbrev pub in_parentheses : List ℕ → List ℕ
in_parentheses name = 32 ∷ 40 ∷ name ++ 41 ∷ []

-- what is added behind what has this name
abbrev pub added : Option (List ℕ) → List ℕ
added None = []
added (Some name) = in_parentheses name

-- ---- lines with what is added

-- an element of a field with what is added behind it
abbrev pub annotated_element : Noted → ℕ → Field → List ℕ → List ℕ × List ℕ
annotated_element notes process what element = (element, added (name_of notes process what element))

-- the elements of a field, between commas
abbrev pub annotated_field : Noted → Walk → List ℕ → List (List ℕ × List ℕ)
annotated_field notes walk word = map (annotated_element notes walk.process (next_field walk.fields)) (parts_of 44 word)

abbrev pub annotated_fields : Noted → Walk → List (List ℕ) → List (List (List ℕ × List ℕ))
annotated_fields notes walk [] = []
annotated_fields notes walk (word ∷ words) = annotated_field notes walk word ∷ annotated_fields notes (walks.behind walk word) words

-- a line: what is added ahead of it, and its fields
pub record AnnotatedLine : Type 0 where
  pub note : List ℕ
  pub fields : List (List (List ℕ × List ℕ))

-- the note of the moment whose call is shown
abbrev pub note_ahead : Noted → Option ℕ → List ℕ
note_ahead notes None = []
note_ahead notes (Some moment) = note_at notes moment

abbrev pub annotated_line : Noted → Shape → List ℕ → AnnotatedLine
annotated_line notes shape line = record {
  note = note_ahead notes (moment_shown (start shape) (fields_of line));
  fields = annotated_fields notes (start shape) (fields_of line);
}

-- the lines that answer a question
abbrev pub annotated : Noted → Shape → List ℕ → List AnnotatedLine
annotated notes shape text = map (annotated_line notes shape) (parts_of 10 text)

-- ---- with what is added

abbrev pub shown_element : List ℕ × List ℕ → List ℕ
shown_element element = element.0 ++ element.1

abbrev pub shown_field : List (List ℕ × List ℕ) → List ℕ
shown_field elements = join_with_byte 44 (map shown_element elements)

abbrev pub shown_fields : List (List (List ℕ × List ℕ)) → List ℕ
shown_fields fields = join_with_byte 32 (map shown_field fields)

abbrev pub shown_line : AnnotatedLine → List ℕ
shown_line line = line.note ++ shown_fields line.fields

abbrev pub shown_text : List AnnotatedLine → List ℕ
shown_text lines = join_with_byte 10 (map shown_line lines)

-- ---- and without it

abbrev pub kept_element : List ℕ × List ℕ → List ℕ
kept_element element = element.0

abbrev pub kept_field : List (List ℕ × List ℕ) → List ℕ
kept_field elements = join_with_byte 44 (map kept_element elements)

abbrev pub kept_line : AnnotatedLine → List ℕ
kept_line line = join_with_byte 32 (map kept_field line.fields)

abbrev pub kept_text : List AnnotatedLine → List ℕ
kept_text lines = join_with_byte 10 (map kept_line lines)
