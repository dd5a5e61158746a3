-- Cutting bytes at a separator, and what is left of a line as the fields that are to be read. Used by proofs only.
use Rattle.std.specs.Prelude.{◌≡◌, ℕ, ◌+◌, ◌-◌, ◌^◌, ◌<◌, ◌≤◌, ◌==◌, false, List, [], ◌∷◌, length, slice_index, Option, Some, None}
use Rattle.std.specs.Option.{ForSome}
use denote.Ref.{Bor}
use Rattle.zt_text.specs.Fields.{Unread, placed, fields_of, parts_of}

-- the fields of what is left behind a space of a line of this length; none where no space was left
abbrev pub unread_of : Option (Bor (List ℕ)) → ℕ → Unread
unread_of None line = record { fields = []; behind = line + 1 }
unread_of (Some left) line =
    record { fields = placed (line - length left.now + 1) (fields_of left.now); behind = line + 1 }

-- what is left is no longer than the line, and the column behind the line is a number
abbrev pub IsLeftOfLine : Option (Bor (List ℕ)) → ℕ → Type 0
IsLeftOfLine left line = ForSome left (λ bytes. length bytes.now ≤ line) × (line + 1 < 2 ^ 64)

-- the first part of some bytes, and what is left behind its separator
abbrev pub IsCut : ℕ → List ℕ → List ℕ → Option (Bor (List ℕ)) → Type 0
IsCut separator bytes first None = (parts_of separator bytes ≡ first ∷ []) × (length first ≡ length bytes)
IsCut separator bytes first (Some left) =
    (parts_of separator bytes ≡ first ∷ parts_of separator left.now) × (length first + 1 + length left.now ≡ length bytes)

-- what the field in front reads as in this form, and what is left behind that field
abbrev pub IsInFront : {A : Type 0} → (List ℕ → Option A) → List ℕ → A × Option (Bor (List ℕ)) → Type 0
IsInFront form bytes read = (first : List ℕ) × (IsCut 32 bytes first read.1) × (form first ≡ Some read.0)

-- none of the bytes from one place up to another is the separator
abbrev pub IsClear : ℕ → List ℕ → ℕ → ℕ → Type 0
IsClear separator bytes from to = (k : ℕ) → from ≤ k → k < to → (slice_index bytes k == separator) ≡ false

-- the parts of what is left; none where no separator was left
abbrev pub parts_left : ℕ → Option (Bor (List ℕ)) → List (List ℕ)
parts_left separator None = []
parts_left separator (Some left) = parts_of separator left.now

-- how far the cutting still has to go
abbrev pub length_left : Option (Bor (List ℕ)) → ℕ
length_left None = 0
length_left (Some left) = length left.now + 1
