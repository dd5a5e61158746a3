-- How a field of a line writes a number: in decimal digits, or as a mask of eight hexadecimal ones.
use Rattle.std.specs.Prelude.{ℕ, ℤ, pos, negsuc, ◌^◌, ◌-◌, Bool, not, ◌&&◌, ◌||◌, ◌==◌, nat_eq, nat_le, nat_lt, slice_index, List, [], ◌∷◌, length, drop, Option, Some, None, if◌then◌else◌, codes}
use Rattle.std.specs.Char.{is_ascii_digit}
use Rattle.std.specs.Option.{option_map, option_and_then}
use Rattle.std.specs.List.{list_all, starts_with}
use Rattle.std.specs.Str.Parse.{digits_value}
use Rattle.zt_bits.specs.declared.signal_bits.Signals.{Signals}
use Rattle.zt_rows.specs.Room.{most_calls}

-- a zero stands before other digits
abbrev pub has_leading_zero : List ℕ → Bool
has_leading_zero field = slice_index field 0 == 48 && nat_lt 1 (length field)

-- one digit or more, without leading zeros
abbrev pub is_decimal : List ℕ → Bool
is_decimal field = nat_lt 0 (length field) && not (has_leading_zero field) && list_all is_ascii_digit field

-- the number that a field writes in decimal, where it is at most this
unfoldable pub decimal_of : ℕ → List ℕ → Option ℕ
decimal_of most field =
    if is_decimal field && nat_le (digits_value 10 field) most then Some (digits_value 10 field) else None

-- one of `0` to `9` and `a` to `f`
abbrev pub is_hex_digit : ℕ → Bool
is_hex_digit byte = is_ascii_digit byte || (nat_le 97 byte && nat_le byte 102)

-- `0x`, and eight such digits
abbrev pub is_mask : List ℕ → Bool
is_mask field = length field == 10 && starts_with nat_eq field (codes "0x") && list_all is_hex_digit (drop 2 field)

-- the number that a mask writes
unfoldable pub mask_of : List ℕ → Option ℕ
mask_of field = if is_mask field then Some (digits_value 16 (drop 2 field)) else None

-- the numbers of processes and of all objects, the keys of packets, the numbers of handles, of bytes or handles to be
-- read, of moments, and of steps back
abbrev pub process_of : List ℕ → Option ℕ
process_of = decimal_of (2 ^ 64 - 1)

abbrev pub koid_of : List ℕ → Option ℕ
koid_of = decimal_of (2 ^ 64 - 1)

abbrev pub key_of : List ℕ → Option ℕ
key_of = decimal_of (2 ^ 64 - 1)

abbrev pub handle_of : List ℕ → Option ℕ
handle_of = decimal_of (2 ^ 32 - 1)

abbrev pub amount_of : List ℕ → Option ℕ
amount_of = decimal_of (2 ^ 32 - 1)

abbrev pub moment_of : List ℕ → Option ℕ
moment_of = decimal_of (2 ^ 32 - 1)

-- the signals that a mask writes
abbrev pub signals_of : List ℕ → Option Signals
signals_of field = option_map (λ n. record { 0 = n }) (mask_of field)

abbrev pub positive : Option ℕ → Option ℕ
positive None = None
positive (Some n) = if n == 0 then None else Some n

abbrev pub count_of : List ℕ → Option ℕ
count_of field = positive (decimal_of most_calls field)

-- a number below zero; there is no zero with a sign
abbrev pub negative : ℕ → Option ℤ
negative n = if n == 0 then None else Some (negsuc (n - 1))

-- a code of 64 bits, with a sign where it is below zero
unfoldable pub code_of : List ℕ → Option ℤ
code_of [] = None
code_of (first ∷ digits) =
    if first == 45 then option_and_then negative (decimal_of (2 ^ 63) digits)
    else option_map pos (decimal_of (2 ^ 63 - 1) (first ∷ digits))
