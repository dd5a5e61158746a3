-- What a session text reads as: its first line, then the line of each call.
use Rattle.std.specs.Prelude.{◌≡◌, ◌⊎◌, ◌==◌, ℕ, ◌+◌, ◌-◌, Bool, true, false, ◌&&◌, nat_lt, List, [], ◌∷◌, length, Option, Some, None, Result, Ok, Err, is_ok, if◌then◌else◌, codes}
use Rattle.std.specs.Str.{bytes_eq}
use Rattle.zt_rows.specs.declared.refusals.Refusal.{Refusal}
use Rattle.zt_rows.specs.declared.refusals.Refusal.TheVariants.{BadLine, LineTooLong, OutOfMemory}
use Rattle.zt_rows.specs.declared.calls.Call.{Call}
use Rattle.zt_text.specs.Fields.{◌>>=◌}
use Rattle.zt_text.specs.Lines.{lines_of}
use Rattle.zt_text.specs.ReadCalls.{process_call}
use Rattle.zt_text.specs.ReadLines.{most_line_bytes, is_skipped, fields_in, each_by}

-- the call of a line behind the first; nothing, where the line is skipped
unfoldable pub call_in : List ℕ → Result (Option (ℕ × Call)) Refusal
call_in line = do
  left ← fields_in line
  each_by process_call left

-- a fault with the number of its line; a want of memory has no line
abbrev pub fault_at : ℕ → Refusal → ℕ × Refusal
fault_at number OutOfMemory = (0, OutOfMemory)
fault_at number fault = (number, fault)

abbrev pub at_line : {A : Type 0} → ℕ → Result A Refusal → Result A (ℕ × Refusal)
at_line number (Ok value) = Ok value
at_line number (Err fault) = Err (fault_at number fault)

-- the call of one line in front of those of the others
abbrev pub in_front : Option (ℕ × Call) → List (ℕ × Call) → List (ℕ × Call)
in_front None calls = calls
in_front (Some made) calls = made ∷ calls

-- the calls of lines of which the first has this number
unfoldable pub calls_in : ℕ → List (List ℕ) → Result (List (ℕ × Call)) (ℕ × Refusal)
calls_in number [] = Ok []
calls_in number (line ∷ lines) = do
  made ← at_line number (call_in line)
  calls ← calls_in (number + 1) lines
  Ok (in_front made calls)

-- the first line, which is never skipped
abbrev pub first_line : List ℕ → Result (Unit {0}) Refusal
first_line line =
    if nat_lt most_line_bytes (length line) then Err LineTooLong
    else (if bytes_eq line (codes "zxtt 1") then Ok tt else Err (BadLine 1))

-- the calls of a text's lines; an empty text has a fault in its first
abbrev pub calls_of_lines : List (List ℕ) → Result (List (ℕ × Call)) (ℕ × Refusal)
calls_of_lines [] = Err (1, BadLine 1)
calls_of_lines (first ∷ lines) = do
  _ ← at_line 1 (first_line first)
  calls_in 2 lines

-- the calls of a session text, or its first fault from above with the number of its line
unfoldable pub session_of : List ℕ → Result (List (ℕ × Call)) (ℕ × Refusal)
session_of text = calls_of_lines (lines_of text)

-- ---- the line of a call

-- the number of the line of this call, counted from 0, among lines of which the first has the number `line`; skipped
-- lines are counted as lines, and not as calls; 0, where there are not so many calls
abbrev pub line_of_call_in : ℕ → ℕ → List (List ℕ) → ℕ
line_of_call_in line call [] = 0
line_of_call_in line call (first ∷ lines) =
    if is_skipped first then line_of_call_in (line + 1) call lines
    else (if call == 0 then line else line_of_call_in (line + 1) (call - 1) lines)

-- the number of the line of this call, counted from 0, in a text of these lines, whose first has the number 1 and is no call
abbrev pub line_of_call_behind : ℕ → List (List ℕ) → ℕ
line_of_call_behind call [] = 0
line_of_call_behind call (first ∷ lines) = line_of_call_in 2 call lines

-- the number of the line of this call of a session text, whose first line has the number 1
abbrev pub line_of_call : List ℕ → ℕ → ℕ
line_of_call text call = line_of_call_behind call (lines_of text)

-- ---- memory

-- a call comes before any fault
abbrev pub comes_first : Result (Option (ℕ × Call)) Refusal → Bool → Bool
comes_first (Ok (Some _)) others = true
comes_first (Ok None) others = others
comes_first (Err _) others = false

unfoldable pub has_call : List (List ℕ) → Bool
has_call [] = false
has_call (line ∷ lines) = comes_first (call_in line) (has_call lines)

-- the first line is right, and behind it a call comes before any fault
abbrev pub has_call_behind : List (List ℕ) → Bool
has_call_behind [] = false
has_call_behind (first ∷ lines) = is_ok (first_line first) && has_call lines

abbrev pub session_has_call : List ℕ → Bool
session_has_call text = has_call_behind (lines_of text)

-- memory was refused, which is asked for where a call comes before any fault
abbrev pub IsWantOfMemory : Bool → ℕ × Refusal → Type 0
IsWantOfMemory some fault = (some ≡ true) × (fault ≡ (0, OutOfMemory))

-- why calls are not read, where some of them may come before any fault: the first fault, or that memory was refused
abbrev pub IsFaultOf : Bool → Result (List (ℕ × Call)) (ℕ × Refusal) → ℕ × Refusal → Type 0
IsFaultOf some (Ok _) fault = IsWantOfMemory some fault
IsFaultOf some (Err first) fault = (fault ≡ first) ⊎ IsWantOfMemory some fault
