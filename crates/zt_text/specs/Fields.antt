-- The fields of a line and their columns, and the fault where one has not the form wanted in its place.
use Rattle.std.specs.Prelude.{ℕ, ◌+◌, ◌==◌, Bool, true, false, List, [], ◌∷◌, length, Option, Result, Ok, Err, if◌then◌else◌}
use Rattle.std.specs.Option.{ok_or}
use Rattle.std.specs.List.{slice_split}
use Rattle.std.specs.Str.{bytes_eq}
use Rattle.zt_rows.specs.declared.refusals.Refusal.{Refusal}
use Rattle.zt_rows.specs.declared.refusals.Refusal.TheVariants.{BadLine}

-- bytes are cut at each separator
abbrev pub parts_of : ℕ → List ℕ → List (List ℕ)
parts_of separator bytes = slice_split (λ byte. byte == separator) bytes

-- a line is cut at each single space
abbrev pub fields_of : List ℕ → List (List ℕ)
fields_of line = parts_of 32 line

-- a field with the column at which it begins
pub record Placed : Type 0 where
  pub column : ℕ
  pub bytes : List ℕ

-- fields with their columns, where the first begins at this one; a space stands between two
unfoldable pub placed : ℕ → List (List ℕ) → List Placed
placed column [] = []
placed column (field ∷ fields) =
    record { column = column; bytes = field } ∷ placed (column + length field + 1) fields

-- the fields of a line that are to be read, and the column behind the line
pub record Unread : Type 0 where
  pub fields : List Placed
  pub behind : ℕ

abbrev pub unread : List ℕ → Unread
unread line = record { fields = placed 1 (fields_of line); behind = length line + 1 }

infixl 10 ◌>>=◌
abbrev pub ◌>>=◌ : {A B E : Type 0} → Result A E → (A → Result B E) → Result B E
(Ok x) >>= f = f x
(Err e) >>= f = Err e

-- the next field; where it is missing the fault is behind the line
abbrev pub first_of : List Placed → ℕ → Result (Placed × Unread) Refusal
first_of [] behind = Err (BadLine behind)
first_of (field ∷ fields) behind = Ok (field, record { fields = fields; behind = behind })

abbrev pub next : Unread → Result (Placed × Unread) Refusal
next left = first_of left.fields left.behind

-- what the next field reads as in this form; where it has not the form the fault is at its column
unfoldable pub field : {A : Type 0} → (List ℕ → Option A) → Unread → Result (A × Unread) Refusal
field form left = do
  first ← next left
  value ← ok_or (form first.0.bytes) (BadLine first.0.column)
  Ok (value, first.1)

-- no field is left; a surplus one is the fault
abbrev pub none_of : List Placed → Result (Unit {0}) Refusal
none_of [] = Ok tt
none_of (field ∷ _) = Err (BadLine field.column)

unfoldable pub ended : Unread → Result (Unit {0}) Refusal
ended left = none_of left.fields

-- a word that may stand at the end: whether it does
abbrev pub flag_of : List ℕ → List Placed → Result Bool Refusal
flag_of word [] = Ok false
flag_of word (field ∷ fields) =
    if bytes_eq field.bytes word then (none_of fields >>= λ _. Ok true) else Err (BadLine field.column)

unfoldable pub flag : List ℕ → Unread → Result Bool Refusal
flag word left = flag_of word left.fields
