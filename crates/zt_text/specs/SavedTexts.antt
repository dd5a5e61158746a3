-- A tree of moments as a session text of version 2: how it is written, and what a text reads as.
use Rattle.std.specs.Prelude.{◌≡◌, ◌⊎◌, ⊤, ◌==◌, ℕ, ◌+◌, ◌^◌, ◌<◌, ◌≤◌, Bool, ◌&&◌, List, [], ◌∷◌, ◌++◌, length, Option, Some, None, Result, Ok, Err, if◌then◌else◌, codes}
use Rattle.std.specs.List.{All, flat_map}
use Rattle.std.specs.Fmt.{decimal}
use Rattle.std.specs.Str.{bytes_eq}
use Rattle.zt_rows.specs.declared.refusals.Refusal.{Refusal}
use Rattle.zt_rows.specs.declared.refusals.Refusal.TheVariants.{BadLine, OutOfMemory}
use Rattle.zt_rows.specs.declared.saved.Saved.{Saved}
use Rattle.zt_rows.specs.declared.saved.SavedCall.{SavedCall}
use Rattle.zt_rows.specs.declared.saved.SavedBranch.{SavedBranch}
use Rattle.zt_rows.specs.declared.saved.Cursor.{Cursor}
use Rattle.zt_rows.specs.declared.saved.Cursor.TheVariants.{Follows, At}
use Rattle.zt_rows.specs.CallsInARow.{in_a_row}
use Rattle.zt_text.specs.Numbers.{decimal_of, moment_of}
use Rattle.zt_text.specs.Names.{name_of}
use Rattle.zt_text.specs.Fields.{Placed, Unread, ◌>>=◌, next, field, ended}
use Rattle.zt_text.specs.ReadCalls.{process_call}
use Rattle.zt_text.specs.ReadLines.{fields_in, only_name}
use Rattle.zt_text.specs.ShownNumbers.{words}
use Rattle.zt_text.specs.Calls.{call_name, call_arguments, IsWithin}
use Rattle.zt_text.specs.Answers.{as_line}
use Rattle.zt_text.specs.Lines.{lines_of}
use Rattle.zt_text.specs.Session.{at_line, session_of}

-- ---- how a tree is written

-- the words of the line of a moment, of a branch, and of a cursor with the number of its client
abbrev pub saved_call_words : SavedCall → List (List ℕ)
saved_call_words made =
    codes "call" ∷ decimal made.parent ∷ decimal made.process ∷ call_name made.call ∷ call_arguments made.call

abbrev pub branch_words : SavedBranch → List (List ℕ)
branch_words branch = codes "branch" ∷ branch.name ∷ decimal branch.head ∷ []

abbrev pub place_words : Cursor → List (List ℕ)
place_words (Follows name) = codes "follow" ∷ name ∷ []
place_words (At moment) = codes "at" ∷ decimal moment ∷ []

abbrev pub cursor_words : ℕ → Cursor → List (List ℕ)
cursor_words client cursor = codes "cursor" ∷ decimal client ∷ place_words cursor

-- their lines
abbrev pub saved_call_line : SavedCall → List ℕ
saved_call_line made = as_line (words (saved_call_words made))

abbrev pub branch_line : SavedBranch → List ℕ
branch_line branch = as_line (words (branch_words branch))

-- those of the cursors of this client and of the clients behind it
abbrev pub cursor_lines : ℕ → List Cursor → List ℕ
cursor_lines client [] = []
cursor_lines client (cursor ∷ cursors) = as_line (words (cursor_words client cursor)) ++ cursor_lines (client + 1) cursors

-- the first line, then the moments, the branches and the cursors
unfoldable pub saved_text : Saved → List ℕ
saved_text saved =
    as_line (codes "zxtt 2") ++ (flat_map saved_call_line saved.moments
    ++ (flat_map branch_line saved.branches ++ cursor_lines 1 saved.cursors))

-- ---- what the fields of a line tell

-- behind the word `call`
unfoldable pub saved_call : Unread → Result SavedCall Refusal
saved_call left = do
  parent ← field moment_of left
  made ← process_call parent.1
  Ok (record { parent = parent.0; process = made.0; call = made.1 })

-- behind the word `branch`
unfoldable pub saved_branch : Unread → Result SavedBranch Refusal
saved_branch left = do
  name ← field name_of left
  head ← field moment_of name.1
  _ ← ended head.1
  Ok (record { name = name.0; head = head.0 })

-- the number of this client, of which there are four
abbrev pub only : ℕ → Option ℕ → Option ℕ
only wanted None = None
only wanted (Some n) = if n == wanted then Some n else None

abbrev pub client_of : ℕ → List ℕ → Option ℕ
client_of wanted bytes = only wanted (decimal_of 4 bytes)

unfoldable pub follows : Unread → Result Cursor Refusal
follows left = do
  name ← only_name left
  Ok (Follows name)

unfoldable pub at_moment : Unread → Result Cursor Refusal
at_moment left = do
  moment ← field moment_of left
  _ ← ended moment.1
  Ok (At moment.0)

unfoldable pub place_named : Placed → Unread → Result Cursor Refusal
place_named word left =
    if bytes_eq word.bytes (codes "follow") then follows left
    else (if bytes_eq word.bytes (codes "at") then at_moment left else Err (BadLine word.column))

-- behind the word `cursor`, where this client is the next
unfoldable pub saved_cursor : ℕ → Unread → Result Cursor Refusal
saved_cursor client left = do
  number ← field (client_of client) left
  word ← next number.1
  place_named word.0 word.1

-- ---- the tree that lines make, each of which adds to what those before it made

-- no moment, no branch and no cursor
abbrev pub bare : Saved
bare = record { moments = []; branches = []; cursors = [] }

abbrev pub add_call : Saved → SavedCall → Saved
add_call tree made = record tree { moments = tree.moments ++ (made ∷ []) }

abbrev pub add_branch : Saved → SavedBranch → Saved
add_branch tree branch = record tree { branches = tree.branches ++ (branch ∷ []) }

abbrev pub add_cursor : Saved → Cursor → Saved
add_cursor tree cursor = record tree { cursors = tree.cursors ++ (cursor ∷ []) }

-- no moment comes behind a branch or a cursor, and no branch behind a cursor
abbrev pub takes_branches : Saved → Bool
takes_branches tree = length tree.cursors == 0

abbrev pub takes_calls : Saved → Bool
takes_calls tree = length tree.branches == 0 && takes_branches tree

abbrev pub next_client : Saved → ℕ
next_client tree = length tree.cursors + 1

unfoldable pub with_call : Saved → Unread → Result Saved Refusal
with_call tree left = do
  made ← saved_call left
  Ok (add_call tree made)

unfoldable pub with_branch : Saved → Unread → Result Saved Refusal
with_branch tree left = do
  branch ← saved_branch left
  Ok (add_branch tree branch)

unfoldable pub with_cursor : Saved → Unread → Result Saved Refusal
with_cursor tree left = do
  cursor ← saved_cursor (next_client tree) left
  Ok (add_cursor tree cursor)

-- what begins with a word that has its place here is judged field by field; any other word is the fault
unfoldable pub with_word : Saved → Placed → Unread → Result Saved Refusal
with_word tree word left =
    if bytes_eq word.bytes (codes "call") && takes_calls tree then with_call tree left
    else (if bytes_eq word.bytes (codes "branch") && takes_branches tree then with_branch tree left
    else (if bytes_eq word.bytes (codes "cursor") then with_cursor tree left else Err (BadLine word.column)))

unfoldable pub with_fields : Saved → Unread → Result Saved Refusal
with_fields tree left = do
  word ← next left
  with_word tree word.0 word.1

-- a skipped line adds nothing
abbrev pub with_any : Saved → Option Unread → Result Saved Refusal
with_any tree None = Ok tree
with_any tree (Some left) = with_fields tree left

unfoldable pub with_line : Saved → List ℕ → Result Saved Refusal
with_line tree line = do
  left ← fields_in line
  with_any tree left

-- the tree with what lines add to it, of which the first has this number
unfoldable pub with_lines : Saved → ℕ → List (List ℕ) → Result Saved (ℕ × Refusal)
with_lines tree number [] = Ok tree
with_lines tree number (line ∷ lines) = do
  more ← at_line number (with_line tree line)
  with_lines more (number + 1) lines

-- ---- session texts of both versions

-- the lines behind a first line `zxtt 2`
abbrev pub tree_lines : List (List ℕ) → Option (List (List ℕ))
tree_lines [] = None
tree_lines (first ∷ lines) = if bytes_eq first (codes "zxtt 2") then Some lines else None

abbrev pub saved_by : Option (List (List ℕ)) → List ℕ → Result Saved (ℕ × Refusal)
saved_by (Some lines) text = with_lines bare 2 lines
saved_by None text = do
  calls ← session_of text
  Ok (in_a_row calls)

-- the tree of a session text, or its first fault from above with the number of its line
unfoldable pub saved_of : List ℕ → Result Saved (ℕ × Refusal)
saved_of text = saved_by (tree_lines (lines_of text)) text

-- why a tree is not read: the first fault, or that memory was refused
abbrev pub IsUnreadTree : Result Saved (ℕ × Refusal) → ℕ × Refusal → Type 0
IsUnreadTree (Ok _) fault = fault ≡ (0, OutOfMemory)
IsUnreadTree (Err first) fault = (fault ≡ first) ⊎ (fault ≡ (0, OutOfMemory))

-- ---- which trees can be written

-- a name that a line can write
abbrev pub IsName : List ℕ → Type 0
IsName name = name_of name ≡ Some name

-- a name so short that no line with it is too long
abbrev pub IsShort : List ℕ → Type 0
IsShort name = length name ≤ 139982

-- the numbers that a moment, a branch and a cursor can have
abbrev pub IsSavedCall : SavedCall → Type 0
IsSavedCall made = (made.parent < 2 ^ 32) × (made.process < 2 ^ 64) × IsWithin made.call

abbrev pub IsHeadWithin : SavedBranch → Type 0
IsHeadWithin branch = branch.head < 2 ^ 32

abbrev pub IsPlaceWithin : Cursor → Type 0
IsPlaceWithin (Follows _) = ⊤
IsPlaceWithin (At moment) = moment < 2 ^ 32

-- such numbers, and such names
abbrev pub IsSavedBranch : SavedBranch → Type 0
IsSavedBranch branch = IsName branch.name × IsShort branch.name × IsHeadWithin branch

abbrev pub IsSavedCursor : Cursor → Type 0
IsSavedCursor (Follows name) = IsName name × IsShort name
IsSavedCursor (At moment) = moment < 2 ^ 32

abbrev pub IsSaved : Saved → Type 0
IsSaved saved =
    All IsSavedCall saved.moments × All IsSavedBranch saved.branches × All IsSavedCursor saved.cursors
    × (length saved.cursors ≤ 4)
