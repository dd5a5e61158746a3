-- Without what is added, the lines of an answer are left.
use Rattle.std.proofs.Common.{◌≡◌, ℕ, List, [], ◌∷◌, map, refl, ap}
use Rattle.std.proofs.lemmas.List.Splits.{join_with_byte-slice_split}
use Rattle.zt_text.specs.Fields.{fields_of, parts_of}
use Rattle.zt_notes.specs.declared.shapes.Field.{Field}
use Rattle.zt_notes.specs.declared.shapes.Shape.{Shape}
use Rattle.zt_text.specs.Notes.{Noted}
use Rattle.zt_notes.specs.Walks.{Walk, behind, start}
use Rattle.zt_notes.specs.Annotations.{annotated, annotated_element, annotated_field, annotated_fields, annotated_line, kept_element, kept_field, kept_line, kept_text}

kept_elements : (notes : Noted) (process : ℕ) (what : Field) (elements : List (List ℕ)) → map kept_element (map (annotated_element notes process what) elements) ≡ elements
kept_elements notes process what [] = refl
kept_elements notes process what (element ∷ elements) = ap (λ others. element ∷ others) (kept_elements notes process what elements)

kept_field_is : (notes : Noted) (walk : Walk) (word : List ℕ) → kept_field (annotated_field notes walk word) ≡ word
kept_field_is notes walk word = rw (kept_elements notes walk.process _ (parts_of 44 word)) (join_with_byte-slice_split 44 word)

kept_fields : (notes : Noted) (walk : Walk) (words : List (List ℕ)) → map kept_field (annotated_fields notes walk words) ≡ words
kept_fields notes walk [] = refl
kept_fields notes walk (word ∷ words) = rw (kept_field_is notes walk word, kept_fields notes (behind walk word) words) refl

kept_line_is : (notes : Noted) (shape : Shape) (line : List ℕ) → kept_line (annotated_line notes shape line) ≡ line
kept_line_is notes shape line = rw (kept_fields notes (start shape) (fields_of line)) (join_with_byte-slice_split 32 line)

kept_lines : (notes : Noted) (shape : Shape) (lines : List (List ℕ)) → map kept_line (map (annotated_line notes shape) lines) ≡ lines
kept_lines notes shape [] = refl
kept_lines notes shape (line ∷ lines) = rw (kept_line_is notes shape line, kept_lines notes shape lines) refl

pub kept_text_is : (notes : Noted) (shape : Shape) (text : List ℕ) → kept_text (annotated notes shape text) ≡ text
kept_text_is notes shape text = rw (kept_lines notes shape (parts_of 10 text)) (join_with_byte-slice_split 10 text)
