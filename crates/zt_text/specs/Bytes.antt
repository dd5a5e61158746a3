-- Bytes as lines write them: two digits of `0` to `9` and `a` to `f` for each, the high one first, or `-` for none.
use Rattle.std.specs.Prelude.{ℕ, ◌+◌, ◌*◌, ◌/◌, ◌%◌, Bool, ◌&&◌, ◌==◌, nat_lt, nat_le, List, [], ◌∷◌, length, slice_index, Option, Some, None, if◌then◌else◌, codes}
use Rattle.std.specs.Char.{digit_value}
use Rattle.std.specs.List.{list_all}
use Rattle.std.specs.Str.{bytes_eq}
use Rattle.zt_text.specs.Numbers.{is_hex_digit}

-- the digit of a number below sixteen
abbrev pub hex_digit : ℕ → ℕ
hex_digit n = slice_index (codes "0123456789abcdef") n

-- two digits for each byte
unfoldable pub hex_text : List ℕ → List ℕ
hex_text [] = []
hex_text (byte ∷ bytes) = hex_digit (byte / 16) ∷ hex_digit (byte % 16) ∷ hex_text bytes

-- the bytes that pairs of digits write
unfoldable pub hex_bytes : List ℕ → List ℕ
hex_bytes [] = []
hex_bytes (_ ∷ []) = []
hex_bytes (high ∷ low ∷ digits) = (digit_value high * 16 + digit_value low) ∷ hex_bytes digits

-- pairs of digits for no more bytes than a message takes
abbrev pub is_digits : List ℕ → Bool
is_digits field = length field % 2 == 0 && nat_le (length field) 131072 && list_all is_hex_digit field

-- the bytes that a field writes
unfoldable pub bytes_of : List ℕ → Option (List ℕ)
bytes_of field =
    if bytes_eq field (codes "-") then Some []
    else (if nat_lt 0 (length field) && is_digits field then Some (hex_bytes field) else None)

-- the bytes that a field writes for a packet: 32 of them
unfoldable pub packet_bytes_of : List ℕ → Option (List ℕ)
packet_bytes_of field =
    if list_all is_hex_digit field && length field == 64 then Some (hex_bytes field) else None
