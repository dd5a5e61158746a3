-- Nothing has a second spelling: what reads as something is what shows it.
use Rattle.std.specs.Prelude.{◌≡◌, ℕ, ◌^◌, ◌<◌, ◌≤◌, ⊤, Bool, true, false, not, ◌==◌, List, [], ◌∷◌, length, Option, Some, Ok, codes}
use Rattle.std.specs.List.{All, list_all}
use Rattle.std.specs.Fmt.{decimal}
use Rattle.zt_rows.specs.Room.{most_calls}
use Rattle.zt_rows.specs.declared.calls.Call.{Call}
use Rattle.zt_rows.specs.declared.calls.Command.{Command}
use Rattle.zt_rows.specs.declared.calls.Command.TheVariants as commands
use Rattle.zt_rows.specs.declared.calls.Happening.{Happening}
use Rattle.zt_rows.specs.declared.calls.Happening.TheVariants.{Made, Ended, PeerClosed, Leaked}
use Rattle.zt_rows.specs.declared.saved.Saved.{Saved}
use Rattle.zt_text.specs.declared.read_lines.Line.{Line}
use Rattle.zt_text.specs.declared.read_lines.Line.TheVariants as line
use Rattle.zt_text.specs.Lines.{lines_of}
use Rattle.zt_text.specs.ReadLines.{is_skipped, read_as}
use Rattle.zt_text.specs.ShownNumbers.{words}
use Rattle.zt_text.specs.Calls.{IsWithin, call_name, call_arguments, shown_call, session_text}
use Rattle.zt_text.specs.Session.{session_of}
use Rattle.zt_text.specs.SavedTexts.{saved_of, saved_text}

-- a field that a form reads is the field that shows what it reads
abbrev pub IsSpelledAsShown : {A : Type 0} → (List ℕ → Option A) → (A → List ℕ) → Type 0
IsSpelledAsShown {A} form show = (field : List ℕ) (value : A) → form field ≡ Some value → field ≡ show value

-- a line that reads as a call is the line that shows the call
abbrev pub CallsAreSpelledAsShown : Type 0
CallsAreSpelledAsShown =
    (text : List ℕ) (process : ℕ) (call : Call) → read_as text ≡ Ok (Some (line.Command (commands.Call process call)))
    → text ≡ shown_call process call

-- ---- lines that ask anything

abbrev pub happening_word : Happening → List ℕ
happening_word Made = codes "made"
happening_word Ended = codes "ended"
happening_word PeerClosed = codes "peer_closed"
happening_word Leaked = codes "leaked"

-- the words of a command
abbrev pub command_words : Command → List (List ℕ)
command_words (commands.Call process made) = decimal process ∷ call_name made ∷ call_arguments made
command_words (commands.Goto moment) = codes "goto" ∷ decimal moment ∷ []
command_words (commands.Back count) = codes "back" ∷ decimal count ∷ []
command_words (commands.Branch name) = codes "branch" ∷ name ∷ []
command_words (commands.Follow name) = codes "follow" ∷ name ∷ []
command_words commands.Show = codes "show" ∷ []
command_words (commands.Holders koid) = codes "holders" ∷ decimal koid ∷ []
command_words commands.Leaks = codes "leaks" ∷ []
command_words (commands.When what koid) = codes "when" ∷ happening_word what ∷ decimal koid ∷ []
command_words commands.Pin = codes "pin" ∷ []

-- the words of all that a line can ask
abbrev pub line_words : Line → List (List ℕ)
line_words (line.Command asked) = command_words asked
line_words line.PinnedShow = codes "pinned" ∷ codes "show" ∷ []
line_words (line.PinnedHolders koid) = codes "pinned" ∷ codes "holders" ∷ decimal koid ∷ []
line_words line.PinnedLeaks = codes "pinned" ∷ codes "leaks" ∷ []

-- a byte of a name: a visible character of ASCII
abbrev pub IsVisible : ℕ → Type 0
IsVisible byte = (33 ≤ byte) × (byte ≤ 126)

-- a name that a command can have: one such byte or more, and so few that the line is not too long
abbrev pub IsNameAsked : List ℕ → Type 0
IsNameAsked name = (1 ≤ length name) × (length name ≤ 139993) × All IsVisible name

-- the numbers and names that a command can have
abbrev pub IsCommandAsked : Command → Type 0
IsCommandAsked (commands.Call process made) = (process < 2 ^ 64) × IsWithin made
IsCommandAsked (commands.Goto moment) = moment < 2 ^ 32
IsCommandAsked (commands.Back count) = (1 ≤ count) × (count ≤ most_calls)
IsCommandAsked (commands.Branch name) = IsNameAsked name
IsCommandAsked (commands.Follow name) = IsNameAsked name
IsCommandAsked commands.Show = ⊤
IsCommandAsked (commands.Holders koid) = koid < 2 ^ 64
IsCommandAsked commands.Leaks = ⊤
IsCommandAsked (commands.When what koid) = koid < 2 ^ 64
IsCommandAsked commands.Pin = ⊤

-- and those of all that a line can ask
abbrev pub IsAsked : Line → Type 0
IsAsked (line.Command asked) = IsCommandAsked asked
IsAsked line.PinnedShow = ⊤
IsAsked (line.PinnedHolders koid) = koid < 2 ^ 64
IsAsked line.PinnedLeaks = ⊤

-- the words of what can be asked, with a space between, ask just that
abbrev pub WordsAskWhatTheySay : Type 0
WordsAskWhatTheySay = (asked : Line) → IsAsked asked → read_as (words (line_words asked)) ≡ Ok (Some asked)

-- a line that asks something has the words of what it asks, with a space between
abbrev pub LinesHaveTheWordsOfWhatTheyAsk : Type 0
LinesHaveTheWordsOfWhatTheyAsk = (text : List ℕ) (asked : Line) → read_as text ≡ Ok (Some asked) → text ≡ words (line_words asked)

-- no two lines ask the same
abbrev pub LinesAskDifferentThings : Type 0
LinesAskDifferentThings =
    (text other : List ℕ) (asked : Line) → read_as text ≡ Ok (Some asked) → read_as other ≡ Ok (Some asked) → text ≡ other

-- ---- session texts

-- no line is empty or begins with `#`
abbrev pub skips_nothing : List ℕ → Bool
skips_nothing text = list_all (λ bytes. not (is_skipped bytes)) (lines_of text)

-- the last line has its line feed
abbrev pub is_whole : List ℕ → Bool
is_whole [] = false
is_whole (byte ∷ []) = byte == 10
is_whole (_ ∷ byte ∷ bytes) = is_whole (byte ∷ bytes)

-- a session text that reads as calls, without skipped lines, is the text that shows the calls
abbrev pub SessionsAreSpelledAsShown : Type 0
SessionsAreSpelledAsShown =
    (text : List ℕ) (calls : List (ℕ × Call)) → session_of text ≡ Ok calls → skips_nothing text ≡ true → is_whole text ≡ true
    → text ≡ session_text calls

-- a text of version 2 that reads as a tree, without skipped lines and with its last line feed, is the text that shows the tree
abbrev pub SavedTreesAreSpelledAsShown : Type 0
SavedTreesAreSpelledAsShown =
    (text : List ℕ) (lines : List (List ℕ)) (saved : Saved) → lines_of text ≡ codes "zxtt 2" ∷ lines → saved_of text ≡ Ok saved
    → skips_nothing text ≡ true → is_whole text ≡ true → text ≡ saved_text saved
