-- The session texts with notes and names: how they are written, and the notes that can be.
use Rattle.std.specs.Prelude.{◌≡◌, ℕ, ◌+◌, Bool, true, List, [], ◌∷◌, ◌++◌, codes}
use Rattle.std.specs.List.{All, flat_map, list_all}
use Rattle.zt_rows.specs.declared.calls.Call.{Call}
use Rattle.zt_rows.specs.declared.saved.Saved.{Saved}
use Rattle.zt_rows.specs.declared.saved.SavedCall.{SavedCall}
use Rattle.zt_text.specs.Answers.{as_line}
use Rattle.zt_text.specs.Calls.{call_line}
use Rattle.zt_text.specs.Lines.{lines_of}
use Rattle.zt_text.specs.SavedTexts.{saved_call_line, branch_line, cursor_lines}
use Rattle.zt_text.specs.Notes.{Noted, note_at, is_name_line, is_note_line}

-- ---- how they are written

-- the lines of moments, of which the first has this number, each behind its note
abbrev pub noted_lines : Noted → ℕ → List SavedCall → List ℕ
noted_lines noted moment [] = []
noted_lines noted moment (made ∷ moments) =
    note_at noted moment ++ saved_call_line made ++ noted_lines noted (moment + 1) moments

-- a tree as a text of version 2: the names stand behind the first line, and what belongs to no moment at the end
unfoldable pub noted_saved_text : Noted → Saved → List ℕ
noted_saved_text noted saved =
    as_line (codes "zxtt 2") ++ (noted.names ++ (noted_lines noted 1 saved.moments
    ++ (flat_map branch_line saved.branches ++ (cursor_lines 1 saved.cursors ++ noted.rest))))

-- the line of the call of a moment, behind the moment's note
abbrev pub noted_call_line : Noted → ℕ × (ℕ × Call) → List ℕ
noted_call_line noted made = note_at noted made.0 ++ call_line made.1

-- calls, each with its moment, as a text of version 1
unfoldable pub noted_session_text : Noted → List (ℕ × (ℕ × Call)) → List ℕ
noted_session_text noted calls =
    as_line (codes "zxtt 1") ++ (noted.names ++ (flat_map (noted_call_line noted) calls ++ noted.rest))

-- ---- the notes that can be written

-- bytes that are such lines, each with its line feed
abbrev pub AreLines : (List ℕ → Bool) → List ℕ → Type 0
AreLines test bytes = (flat_map as_line (lines_of bytes) ≡ bytes) × (list_all test (lines_of bytes) ≡ true)

-- notes are comments, and names are name lines
abbrev pub IsNoted : Noted → Type 0
IsNoted noted = All (AreLines is_note_line) noted.notes × AreLines is_note_line noted.rest × AreLines is_name_line noted.names

-- two have the same notes, moment by moment, and the same names
abbrev pub IsSameNoted : Noted → Noted → Type 0
IsSameNoted noted other =
    ((moment : ℕ) → note_at noted moment ≡ note_at other moment) × (noted.rest ≡ other.rest) × (noted.names ≡ other.names)
