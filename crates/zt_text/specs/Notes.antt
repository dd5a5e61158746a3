-- The notes and the names of a session text: its comments, by the moments that they belong to.
use Rattle.std.specs.Prelude.{ℕ, ◌-◌, Bool, false, not, ◌&&◌, ◌||◌, ◌==◌, nat_eq, nat_lt, nat_le, List, [], ◌∷◌, ◌++◌, length, slice_index_or, Option, Some, None, is_some, if◌then◌else◌, codes}
use Rattle.std.specs.Option.{option_map, option_and_then}
use Rattle.std.specs.List.{starts_with, list_all}
use Rattle.std.specs.Str.{bytes_eq, is_utf8}
use Rattle.zt_text.specs.declared.name_lines.Subject.{Subject}
use Rattle.zt_text.specs.declared.name_lines.Subject.TheVariants.{Object, Handle}
use Rattle.zt_text.specs.Numbers.{koid_of, process_of, handle_of}
use Rattle.zt_text.specs.Fields.{fields_of}
use Rattle.zt_text.specs.ReadLines.{most_line_bytes, is_skipped}
use Rattle.zt_text.specs.ShownNumbers.{words}
use Rattle.zt_text.specs.Answers.{as_line}
use Rattle.zt_text.specs.Lines.{lines_of}

-- ---- what a line names

-- the first byte is below this
abbrev pub begins_below : ℕ → List ℕ → Bool
begins_below bound [] = false
begins_below bound (byte ∷ _) = nat_lt byte bound

-- a control character begins these bytes: one below the space, 127, or one of 128 to 159, which takes two bytes
abbrev pub begins_control : List ℕ → Bool
begins_control [] = false
begins_control (byte ∷ bytes) = nat_lt byte 32 || byte == 127 || (byte == 194 && begins_below 160 bytes)

abbrev pub has_control : List ℕ → Bool
has_control [] = false
has_control (byte ∷ bytes) = begins_control (byte ∷ bytes) || has_control bytes

-- the text of a name: 1 to 64 bytes of UTF-8, without control characters
unfoldable pub is_name_text : List ℕ → Bool
is_name_text bytes =
    nat_lt 0 (length bytes) && nat_le (length bytes) 64 && is_utf8 bytes && not (has_control bytes)

-- this text as the name of what a line names
abbrev pub with_text : List ℕ → Subject → Option (Subject × List ℕ)
with_text text subject = if is_name_text text then Some (subject, text) else None

-- what one number names, and what two numbers name
abbrev pub object_by : List ℕ → Option Subject
object_by koid = option_map (λ k. Object k) (koid_of koid)

abbrev pub handle_by : List ℕ → List ℕ → Option Subject
handle_by process handle = option_and_then (λ p. option_map (λ h. Handle p h) (handle_of handle)) (process_of process)

-- behind the word `name`: a koid, and the text
unfoldable pub object_named : List (List ℕ) → Option (Subject × List ℕ)
object_named [] = None
object_named (koid ∷ text) = option_and_then (with_text (words text)) (object_by koid)

-- behind the word `handle`: a process, a handle, and the text
unfoldable pub handle_named : List (List ℕ) → Option (Subject × List ℕ)
handle_named [] = None
handle_named (_ ∷ []) = None
handle_named (process ∷ handle ∷ text) = option_and_then (with_text (words text)) (handle_by process handle)

unfoldable pub named_by : List ℕ → List (List ℕ) → Option (Subject × List ℕ)
named_by word fields =
    if bytes_eq word (codes "name") then object_named fields
    else (if bytes_eq word (codes "handle") then handle_named fields else None)

unfoldable pub named_in : List (List ℕ) → Option (Subject × List ℕ)
named_in [] = None
named_in (_ ∷ []) = None
named_in (sign ∷ word ∷ fields) = if bytes_eq sign (codes "#") then named_by word fields else None

-- what a line names, and its text: `# name KOID TEXT` or `# handle PROCESS HANDLE TEXT`
unfoldable pub name_in : List ℕ → Option (Subject × List ℕ)
name_in line = named_in (fields_of line)

-- ---- the kinds of lines behind the first

-- a comment that is not too long for a line
abbrev pub is_comment : List ℕ → Bool
is_comment line = starts_with nat_eq line (codes "#") && nat_le (length line) most_line_bytes

-- a comment that names something, and one that does not
abbrev pub is_name_line : List ℕ → Bool
is_name_line line = is_comment line && is_some (name_in line)

abbrev pub is_note_line : List ℕ → Bool
is_note_line line = is_comment line && not (is_some (name_in line))

-- the line of a branch or of a cursor
abbrev pub is_place_line : List ℕ → Bool
is_place_line line = starts_with nat_eq line (codes "branch ") || starts_with nat_eq line (codes "cursor ")

-- ---- the notes and the names of a text

-- the note of each moment from 1, the comments that belong to no moment, and the name lines; all with their line feeds
pub record Noted : Type 0 where
  pub notes : List (List ℕ)
  pub rest : List ℕ
  pub names : List ℕ

-- those of the lines so far, with the comments that wait for what comes behind them
pub record NotedSoFar : Type 0 where
  pub notes : List (List ℕ)
  pub waiting : List ℕ
  pub rest : List ℕ
  pub names : List ℕ

abbrev pub nothing_noted : NotedSoFar
nothing_noted = record { notes = []; waiting = []; rest = []; names = [] }

-- a comment waits, and a name line is a name at once; of the other skipped lines nothing is kept
abbrev pub with_comment : NotedSoFar → List ℕ → NotedSoFar
with_comment noted line =
    if is_name_line line then record noted { names = noted.names ++ as_line line }
    else (if is_note_line line then record noted { waiting = noted.waiting ++ as_line line } else noted)

-- a moment takes the comments that wait as its note
abbrev pub with_moment : NotedSoFar → NotedSoFar
with_moment noted = record noted { notes = noted.notes ++ (noted.waiting ∷ []); waiting = [] }

-- at a branch or a cursor they belong to no moment
abbrev pub without_moment : NotedSoFar → NotedSoFar
without_moment noted = record noted { waiting = []; rest = noted.rest ++ noted.waiting }

abbrev pub with_noted : NotedSoFar → List ℕ → NotedSoFar
with_noted noted line =
    if is_skipped line then with_comment noted line
    else (if is_place_line line then without_moment noted else with_moment noted)

abbrev pub noted_in : NotedSoFar → List (List ℕ) → NotedSoFar
noted_in noted [] = noted
noted_in noted (line ∷ lines) = noted_in (with_noted noted line) lines

-- at the end of a text the comments that wait belong to no moment
abbrev pub all_noted : NotedSoFar → Noted
all_noted noted = record { notes = noted.notes; rest = noted.rest ++ noted.waiting; names = noted.names }

abbrev pub behind_first : List (List ℕ) → List (List ℕ)
behind_first [] = []
behind_first (_ ∷ lines) = lines

-- the notes and the names of a session text of either version
unfoldable pub notes_of : List ℕ → Noted
notes_of text = all_noted (noted_in nothing_noted (behind_first (lines_of text)))

-- no notes and no names
abbrev pub none_noted : Noted
none_noted = record { notes = []; rest = []; names = [] }

-- there is no comment and no name
abbrev pub is_nothing : List ℕ → Bool
is_nothing bytes = length bytes == 0

abbrev pub is_unnoted : Noted → Bool
is_unnoted noted = list_all is_nothing noted.notes && is_nothing noted.rest && is_nothing noted.names

-- the note of a moment; empty for the opening, and beyond the last
abbrev pub note_at : Noted → ℕ → List ℕ
note_at noted moment = if moment == 0 then [] else slice_index_or noted.notes (moment - 1) []

-- ---- the name of an object or of a handle

-- both are one object or one handle
abbrev pub is_same_subject : Subject → Subject → Bool
is_same_subject (Object koid) (Object other) = koid == other
is_same_subject (Handle process handle) (Handle other_process other) = (process == other_process) && (handle == other)
is_same_subject (Object _) (Handle _ _) = false
is_same_subject (Handle _ _) (Object _) = false

-- the text of a line that names the subject, else the one found before
abbrev pub newer_name : Subject → Option (List ℕ) → Option (Subject × List ℕ) → Option (List ℕ)
newer_name subject found None = found
newer_name subject found (Some named) = if is_same_subject named.0 subject then Some named.1 else found

-- the text of the last of these lines that names the subject, else the one found before
abbrev pub last_name : Subject → Option (List ℕ) → List (List ℕ) → Option (List ℕ)
last_name subject found [] = found
last_name subject found (line ∷ lines) = last_name subject (newer_name subject found (name_in line)) lines

-- the name of a subject, which the last name line for it tells
unfoldable pub name_of_subject : Noted → Subject → Option (List ℕ)
name_of_subject noted subject = last_name subject None (lines_of noted.names)
