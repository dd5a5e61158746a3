-- How answers show numbers, bytes and lists.
use Rattle.std.specs.Prelude.{ℕ, ◌-◌, false, List, [], ◌∷◌, ◌++◌, length, map, replicate, codes}
use Rattle.std.specs.List.{join_with_byte}
use Rattle.std.specs.Fmt.{decimal, digits}
use Rattle.zt_rows.specs.declared.rows.Held.{Held}
use Rattle.zt_text.specs.Bytes.{hex_text}

-- words with a space between
abbrev pub words : List (List ℕ) → List ℕ
words fields = join_with_byte 32 fields

-- the hexadecimal digits of a number, so many at least, with zeros in front
unfoldable pub hexadecimal : ℕ → ℕ → List ℕ
hexadecimal wanted n = replicate (wanted - length (digits 16 false n)) 48 ++ digits 16 false n

-- a mask: `0x` and eight digits
abbrev pub shown_mask : ℕ → List ℕ
shown_mask bits = codes "0x" ++ hexadecimal 8 bits

-- two digits for each byte, or `-` for none
abbrev pub shown_bytes : List ℕ → List ℕ
shown_bytes [] = codes "-"
shown_bytes (first ∷ others) = hex_text (first ∷ others)

-- elements with a comma between, or `-` for none
abbrev pub shown_list : {A : Type 0} → (A → List ℕ) → List A → List ℕ
shown_list show [] = codes "-"
shown_list show (first ∷ others) = join_with_byte 44 (map show (first ∷ others))

-- what a handle holds
abbrev pub shown_held : Held → List ℕ
shown_held held = decimal held.koid ++ (58 ∷ shown_mask held.rights.0)
