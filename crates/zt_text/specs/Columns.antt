-- What the column of a fault tells, by what other lines read as: the fault is the first field with which no line begins
-- that asks something; where every field is one with which such a line begins, a field is missing.
use Rattle.std.specs.Prelude.{◌≡◌, ℕ, ⊤, ◌+◌, List, [], ◌∷◌, ◌++◌, length, Ok, Err}
use Rattle.zt_rows.specs.declared.refusals.Refusal.TheVariants.{BadLine}
use Rattle.zt_text.specs.declared.read_lines.Line.{Line}
use Rattle.zt_text.specs.Fields.{fields_of, unread}
use Rattle.zt_text.specs.ReadLines.{asked_by, read_as}

-- the fields of a line ask something
abbrev pub AsksSomething : List ℕ → Type 0
AsksSomething text = (asked : Line) × (asked_by (unread text) ≡ Ok asked)

-- some line that begins with these fields asks something
abbrev pub CanGoOn : List (List ℕ) → Type 0
CanGoOn before = (text : List ℕ) × (more : List (List ℕ)) × (fields_of text ≡ before ++ more) × AsksSomething text

-- no line asks something that begins with these fields and the first of those that are left
abbrev pub NoneGoesOn : List (List ℕ) → List (List ℕ) → Type 0
NoneGoesOn before [] = ⊤
NoneGoesOn before (first ∷ _) =
    (text : List ℕ) (others : List (List ℕ)) → fields_of text ≡ before ++ (first ∷ others) → AsksSomething text → ⊥

-- where the first of the fields that are left begins, where those before begin at this column; behind the line, where
-- none are left
abbrev pub column_of : ℕ → ℕ → List (List ℕ) → List (List ℕ) → ℕ
column_of column behind before [] = behind
column_of column behind [] (_ ∷ _) = column
column_of column behind (field ∷ before) (first ∷ others) =
    column_of (column + length field + 1) behind before (first ∷ others)

-- the fields before the column go on as those of a line that asks something, and no such line goes on with the field there
abbrev pub IsFirstFault : List ℕ → ℕ → Type 0
IsFirstFault text column =
    (before : List (List ℕ)) × (left : List (List ℕ)) × (fields_of text ≡ before ++ left)
    × (column ≡ column_of 1 (length text + 1) before left) × CanGoOn before × NoneGoesOn before left

abbrev pub ColumnsTellFirstFaults : Type 0
ColumnsTellFirstFaults = (text : List ℕ) (column : ℕ) → read_as text ≡ Err (BadLine column) → IsFirstFault text column
