-- What a line of a client reads as: a call, a command, or a question to the pinned copy.
use Rattle.std.specs.Prelude.{◌≡◌, ℕ, Bool, true, false, ◌==◌, nat_lt, List, [], ◌∷◌, length, Option, Some, None, Result, Ok, Err, if◌then◌else◌, codes}
use Rattle.std.specs.Str.{bytes_eq}
use Rattle.zt_rows.specs.declared.refusals.Refusal.{Refusal}
use Rattle.zt_rows.specs.declared.refusals.Refusal.TheVariants.{BadLine, LineTooLong, OutOfMemory}
use Rattle.zt_rows.specs.declared.calls.Call.{Call}
use Rattle.zt_rows.specs.declared.calls.Call.TheVariants as calls
use Rattle.zt_rows.specs.declared.calls.Command.{Command}
use Rattle.zt_rows.specs.declared.calls.Command.TheVariants as commands
use Rattle.zt_text.specs.declared.read_lines.Line.{Line}
use Rattle.zt_text.specs.declared.read_lines.Line.TheVariants as line
use Rattle.zt_text.specs.Numbers.{process_of, koid_of, moment_of, count_of}
use Rattle.zt_text.specs.Names.{name_of, happening_of}
use Rattle.zt_text.specs.Fields.{Placed, Unread, unread, ◌>>=◌, next, field, ended}
use Rattle.zt_text.specs.ReadCalls.{call}

-- ---- the arguments of each command

unfoldable pub goto : Unread → Result Command Refusal
goto left = do
  moment ← field moment_of left
  _ ← ended moment.1
  Ok (commands.Goto moment.0)

unfoldable pub back : Unread → Result Command Refusal
back left = do
  count ← field count_of left
  _ ← ended count.1
  Ok (commands.Back count.0)

-- a name, and nothing behind it
unfoldable pub only_name : Unread → Result (List ℕ) Refusal
only_name left = do
  name ← field name_of left
  _ ← ended name.1
  Ok name.0

unfoldable pub branch : Unread → Result Command Refusal
branch left = do
  name ← only_name left
  Ok (commands.Branch name)

unfoldable pub follow : Unread → Result Command Refusal
follow left = do
  name ← only_name left
  Ok (commands.Follow name)

unfoldable pub show : Unread → Result Command Refusal
show left = do
  _ ← ended left
  Ok commands.Show

unfoldable pub holders : Unread → Result Command Refusal
holders left = do
  koid ← field koid_of left
  _ ← ended koid.1
  Ok (commands.Holders koid.0)

unfoldable pub leaks : Unread → Result Command Refusal
leaks left = do
  _ ← ended left
  Ok commands.Leaks

unfoldable pub when : Unread → Result Command Refusal
when left = do
  what ← field happening_of left
  koid ← field koid_of what.1
  _ ← ended koid.1
  Ok (commands.When what.0 koid.0)

unfoldable pub pin : Unread → Result Command Refusal
pin left = do
  _ ← ended left
  Ok commands.Pin

-- ---- commands by name

-- the command of this name, of those that ask for what stands at the position
unfoldable pub question_named : Placed → Unread → Result Command Refusal
question_named name left =
    if bytes_eq name.bytes (codes "show") then show left
    else (if bytes_eq name.bytes (codes "holders") then holders left
    else (if bytes_eq name.bytes (codes "leaks") then leaks left
    else (if bytes_eq name.bytes (codes "when") then when left
    else (if bytes_eq name.bytes (codes "pin") then pin left
    else Err (BadLine name.column)))))

-- the command of this name, of those that take no memory
unfoldable pub plain_command_named : Placed → Unread → Result Command Refusal
plain_command_named name left =
    if bytes_eq name.bytes (codes "goto") then goto left
    else (if bytes_eq name.bytes (codes "back") then back left else question_named name left)

-- the command of this name
unfoldable pub command_named : Placed → Unread → Result Command Refusal
command_named name left =
    if bytes_eq name.bytes (codes "branch") then branch left
    else (if bytes_eq name.bytes (codes "follow") then follow left else plain_command_named name left)

-- ---- questions to the pinned copy

unfoldable pub pinned_show : Unread → Result Line Refusal
pinned_show left = do
  _ ← ended left
  Ok line.PinnedShow

unfoldable pub pinned_holders : Unread → Result Line Refusal
pinned_holders left = do
  koid ← field koid_of left
  _ ← ended koid.1
  Ok (line.PinnedHolders koid.0)

unfoldable pub pinned_leaks : Unread → Result Line Refusal
pinned_leaks left = do
  _ ← ended left
  Ok line.PinnedLeaks

unfoldable pub pinned_named : Placed → Unread → Result Line Refusal
pinned_named name left =
    if bytes_eq name.bytes (codes "show") then pinned_show left
    else (if bytes_eq name.bytes (codes "holders") then pinned_holders left
    else (if bytes_eq name.bytes (codes "leaks") then pinned_leaks left else Err (BadLine name.column)))

-- behind the word `pinned`
unfoldable pub pinned : Unread → Result Line Refusal
pinned left = do
  name ← next left
  pinned_named name.0 name.1

-- ---- lines

-- what begins with the word `pinned` asks the pinned copy, and all else begins with the name of a command
unfoldable pub word_named : Placed → Unread → Result Line Refusal
word_named first left = if bytes_eq first.bytes (codes "pinned") then pinned left else (do
  asked ← command_named first left
  Ok (line.Command asked))

-- what begins with a process's number is a call
abbrev pub call_or_word : Option ℕ → Placed → Unread → Result Line Refusal
call_or_word (Some process) first left = do
  made ← call left
  Ok (line.Command (commands.Call process made))
call_or_word None first left = word_named first left

-- what the fields of a line ask
unfoldable pub asked_by : Unread → Result Line Refusal
asked_by left = do
  first ← next left
  call_or_word (process_of first.0.bytes) first.0 first.1

-- the most bytes of a line
abbrev pub most_line_bytes : ℕ
most_line_bytes = 140000

-- an empty line, and one that begins with `#`
abbrev pub is_skipped : List ℕ → Bool
is_skipped [] = true
is_skipped (first ∷ _) = first == 35

-- the fields of a line; none, where it is skipped. A line that is too long is refused, also where it begins with `#`
unfoldable pub fields_in : List ℕ → Result (Option Unread) Refusal
fields_in line =
    if nat_lt most_line_bytes (length line) then Err LineTooLong
    else (if is_skipped line then Ok None else Ok (Some (unread line)))

-- what the fields of a line read as, where there are any
abbrev pub each_by : {A : Type 0} → (Unread → Result A Refusal) → Option Unread → Result (Option A) Refusal
each_by form None = Ok None
each_by form (Some left) = do
  value ← form left
  Ok (Some value)

-- a skipped line asks nothing; every other line asks something, is too long, or has its first fault from the left
-- at a column
unfoldable pub read_as : List ℕ → Result (Option Line) Refusal
read_as line = do
  left ← fields_in line
  each_by asked_by left

-- ---- memory

-- a call that carries a parcel takes memory
abbrev pub has_parcel : Call → Bool
has_parcel (calls.ChannelWrite _ _) = true
has_parcel _ = false

-- reading a command takes memory, if it is a call that carries a parcel or has the name of a branch
abbrev pub takes_memory : Command → Bool
takes_memory (commands.Call _ made) = has_parcel made
takes_memory (commands.Branch _) = true
takes_memory (commands.Follow _) = true
takes_memory _ = false

abbrev pub asked_takes_memory : Line → Bool
asked_takes_memory (line.Command asked) = takes_memory asked
asked_takes_memory _ = false

abbrev pub line_takes_memory : Option Line → Bool
line_takes_memory (Some asked) = asked_takes_memory asked
line_takes_memory None = false

-- why something is not read: its fault, or that memory was refused to what takes some
abbrev pub IsUnread : {A : Type 0} → (A → Bool) → Result A Refusal → Refusal → Type 0
IsUnread takes (Ok wanted) reason = (takes wanted ≡ true) × (reason ≡ OutOfMemory)
IsUnread takes (Err fault) reason = reason ≡ fault
