-- The calls of a session text of version 1, one after another: what is left to be read, and what comes next.
use Rattle.std.specs.Prelude.{◌≡◌, ℕ, ◌+◌, not, List, [], ◌∷◌, count_by, Option, Some, None, is_some, Result, Ok, Err}
use Rattle.zt_rows.specs.declared.refusals.Refusal.{Refusal}
use Rattle.zt_rows.specs.declared.refusals.Refusal.TheVariants.{BadLine}
use Rattle.zt_rows.specs.declared.calls.Call.{Call}
use Rattle.zt_rows.specs.declared.saved.Saved.{Saved}
use Rattle.zt_rows.specs.CallsInARow.{in_a_row}
use Rattle.zt_text.specs.Fields.{◌>>=◌}
use Rattle.zt_text.specs.ReadLines.{is_skipped}
use Rattle.zt_text.specs.Session.{at_line, call_in, calls_in, first_line, IsWantOfMemory}

-- the lines that are left, of which the first has this number
pub record LinesLeft : Type 0 where
  pub number : ℕ
  pub lines : List (List ℕ)

-- the lines behind the first line `zxtt 1`, or the fault of that; an empty text has a fault in its first line
abbrev pub row_lines : List (List ℕ) → Result LinesLeft (ℕ × Refusal)
row_lines [] = Err (1, BadLine 1)
row_lines (first ∷ lines) = do
  _ ← at_line 1 (first_line first)
  Ok (record { number = 2; lines = lines })

-- all calls left, or the first fault
abbrev pub calls_left : LinesLeft → Result (List (ℕ × Call)) (ℕ × Refusal)
calls_left left = calls_in left.number left.lines

-- a call in front of all behind it, or their first fault
abbrev pub in_front_of : ℕ × Call → Result (List (ℕ × Call)) (ℕ × Refusal) → Result (List (ℕ × Call)) (ℕ × Refusal)
in_front_of made (Ok calls) = Ok (made ∷ calls)
in_front_of made (Err fault) = Err fault

-- the tree of calls in a row, or their first fault
abbrev pub tree_of : Result (List (ℕ × Call)) (ℕ × Refusal) → Result Saved (ℕ × Refusal)
tree_of (Ok calls) = Ok (in_a_row calls)
tree_of (Err fault) = Err fault

-- this call with the lines behind it, or, where there is no call, `others`
abbrev pub or_behind : Option (ℕ × Call) → LinesLeft → Result (Option (ℕ × Call) × LinesLeft) (ℕ × Refusal) → Result (Option (ℕ × Call) × LinesLeft) (ℕ × Refusal)
or_behind None behind others = others
or_behind (Some made) behind others = Ok (Some made, behind)

-- the first call of these lines with the lines behind it, or the fault of a line before; no call and no lines, where no line has one
unfoldable pub next_in : ℕ → List (List ℕ) → Result (Option (ℕ × Call) × LinesLeft) (ℕ × Refusal)
next_in number [] = Ok (None, record { number = number; lines = [] })
next_in number (line ∷ lines) = do
  made ← at_line number (call_in line)
  or_behind made (record { number = number + 1; lines = lines }) (next_in (number + 1) lines)

abbrev pub next_call : LinesLeft → Result (Option (ℕ × Call) × LinesLeft) (ℕ × Refusal)
next_call left = next_in left.number left.lines

-- why the next call is not read: the fault of its line or of one before, or that memory was refused to it
abbrev pub IsNotNext : Result (Option (ℕ × Call) × LinesLeft) (ℕ × Refusal) → ℕ × Refusal → Type 0
IsNotNext (Ok found) fault = IsWantOfMemory (is_some found.0) fault
IsNotNext (Err first) fault = fault ≡ first

-- how many of these lines are not skipped
abbrev pub calls_counted : List (List ℕ) → ℕ
calls_counted lines = count_by (λ line. not (is_skipped line)) lines
