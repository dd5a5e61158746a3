-- The JSON of a line, and of all lines of an answer.
use Rattle.std.specs.Prelude.{ℕ, ◌==◌, not, List, [], ◌∷◌, ◌++◌, length, Option, Some, None, if◌then◌else◌}
use Rattle.std.specs.List.{position}
use Rattle.std.specs.Option.{unwrap_or}
use Rattle.json.specs.Token.{Token}
use Rattle.json.specs.Token as json
use Rattle.json.specs.Print.{print}
use Rattle.zt_notes.specs.declared.shapes.Shape.{Shape}
use Rattle.zt_notes.specs.declared.shapes.Shape.TheVariants.{Calls, Changes, Events, Object, Handles, Messages, Branches, Summary, Alive, Life, Lineage}
use Rattle.zt_json.specs.declared.words.Word.TheVariants.{Line}
use Rattle.zt_json.specs.declared.steps.TheConstants.{HANDLE_LINE}
use Rattle.zt_json.specs.Words.{text_of}
use Rattle.zt_text.specs.Notes.{Noted}
use Rattle.zt_json.specs.Parts.{parts_of}
use Rattle.zt_json.specs.Values.{◌>>=◌}
use Rattle.zt_json.specs.Made.{Made, begun, put, is_read, first_word}
use Rattle.zt_json.specs.Members.{performed_all, noted}
use Rattle.zt_json.specs.Lines.{call_line, change_line, event_line, object_line, message_line, branch_line, summary_line, alive_line}
use Rattle.zt_json.specs.Lives.{life_line, tree_line}

-- the process whose handles the first fields of a line tell, or 0
abbrev pub process_of : Shape → ℕ
process_of Calls = 0
process_of Changes = 0
process_of Events = 0
process_of Object = 0
process_of (Handles process) = process
process_of Messages = 0
process_of Branches = 0
process_of Summary = 0
process_of Alive = 0
process_of Life = 0
process_of Lineage = 0

-- the place of the first byte that is no space
abbrev pub first_word_at : List ℕ → Option ℕ
first_word_at line = position (λ byte. not (byte == 32)) line

-- how many spaces are ahead of a line
abbrev pub spaces_ahead : List ℕ → ℕ
spaces_ahead line = unwrap_or (first_word_at line) (length line)

-- the members of a line of this shape, with so many spaces ahead
abbrev pub line_made : Shape → ℕ → Made → Option Made
line_made Calls spaces made = call_line made
line_made Changes spaces made = change_line made
line_made Events spaces made = event_line made
line_made Object spaces made = object_line made
line_made (Handles _) spaces made = performed_all HANDLE_LINE made
line_made Messages spaces made = message_line made
line_made Branches spaces made = branch_line made
line_made Summary spaces made = summary_line made
line_made Alive spaces made = alive_line made
line_made Life spaces made = life_line made
line_made Lineage spaces made = tree_line spaces made

-- the note and the end of an object, where no field is left
abbrev pub whole : Made → Option Made
whole made = if is_read made.fields then Some (put json.end_object (noted made)) else None

abbrev pub object_made : Shape → ℕ → Made → Option Made
object_made shape spaces made = line_made shape spaces (put json.begin_object made) >>= whole

-- the object of a line that has not the form of its shape: the line itself
abbrev pub unread_tokens : List ℕ → List Token
unread_tokens line = json.begin_object ∷ json.key (text_of Line) ∷ json.string line ∷ json.end_object ∷ []

abbrev pub unread_json : List ℕ → List ℕ
unread_json line = print (unread_tokens line)

abbrev pub json_or : List ℕ → Option Made → List ℕ
json_or line None = unread_json line
json_or line (Some made) = print made.tokens

-- the JSON of a line: its object and a line feed; nothing for an empty line
abbrev pub line_json : Noted → Shape → List ℕ → List ℕ → List ℕ
line_json notes shape line named =
    if length line == 0 then [] else json_or line (object_made shape (spaces_ahead line) (begun notes (process_of shape) line named)) ++ 10 ∷ []

abbrev pub rest_of : List (List ℕ) → List (List ℕ)
rest_of [] = []
rest_of (_ ∷ rest) = rest

-- the JSON of lines, each with the line that has names
unfoldable pub json_of : Noted → Shape → List (List ℕ) → List (List ℕ) → List ℕ
json_of notes shape [] named = []
json_of notes shape (line ∷ lines) named = line_json notes shape line (first_word named) ++ json_of notes shape lines (rest_of named)

abbrev pub json_text : Noted → Shape → List ℕ → List ℕ → List ℕ
json_text notes shape text named = json_of notes shape (parts_of 10 text) (parts_of 10 named)
