-- Which answers show notes and names, and in lines of which shape.
use Rattle.std.specs.Prelude.{Bool, true, Option, Some, None, unwrap_or, if◌then◌else◌}
use Rattle.zt_notes.specs.declared.shapes.Shape.{Shape}
use Rattle.zt_notes.specs.declared.shapes.Shape.TheVariants as shape
use Rattle.zt_words.specs.declared.question.Question.{Question}
use Rattle.zt_words.specs.declared.question.Question.TheVariants as question

-- notes are shown, or the question is about notes
abbrev pub needs_notes : Bool → Question → Bool
needs_notes shown (question.Note moment) = true
needs_notes shown question.Find = true
needs_notes shown _ = shown

-- the shape of a question's lines; a note has none, since its lines are shown as they stand
abbrev pub shape_of : Question → Option Shape
shape_of (question.Calls filter) = Some shape.Calls
shape_of (question.Changed moment) = Some shape.Changes
shape_of (question.ChangedBetween from to) = Some shape.Changes
shape_of (question.Events wanted) = Some shape.Events
shape_of (question.Object koid) = Some shape.Object
shape_of (question.Handles process) = Some (shape.Handles process)
shape_of (question.Messages koid) = Some shape.Messages
shape_of question.Branches = Some shape.Branches
shape_of question.Summary = Some shape.Summary
shape_of (question.Alive since) = Some shape.Alive
shape_of (question.Handle process value) = Some shape.Life
shape_of (question.Lineage koid) = Some shape.Lineage
shape_of (question.Note moment) = None
shape_of question.Find = Some shape.Calls

-- the shape of a question's lines in JSON: the lines of a note have not that of calls, and are shown as they stand
abbrev pub json_shape : Question → Shape
json_shape asked = unwrap_or (shape_of asked) shape.Calls

-- the shape of the lines in which notes and names are shown, if they are
abbrev pub noted_shape : Bool → Question → Option Shape
noted_shape shown asked = if shown then shape_of asked else None
