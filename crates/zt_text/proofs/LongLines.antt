-- A write of more bytes than a message takes is a fault at the column of its bytes, whatever its digits are.
use Rattle.std.proofs.Common.{◌≡◌, ℕ, ◌+◌, ◌%◌, ◌<◌, ◌≤◌, length-append, Bool, true, false, List, [], ◌∷◌, ◌++◌, length, Some, None, Err, refl, arith}
use Rattle.std.specs.Prelude.{◌==◌, ◌&&◌, codes, nat_le, nat_lt, if◌then◌else◌}
use Rattle.std.specs.List.{All, list_all}
use Rattle.std.specs.Str.{bytes_eq}
use Rattle.std.proofs.lemmas.List.Splits.{slice_split_at}
use Rattle.std.proofs.lemmas.Bool.Decides.{nat_tests}
use Rattle.zt_rows.specs.declared.refusals.Refusal.TheVariants.{BadLine, LineTooLong}
use Rattle.zt_text.specs.Numbers.{decimal_of, is_hex_digit}
use Rattle.zt_text.specs.Bytes.{hex_bytes, bytes_of}
use Rattle.zt_text.specs.Fields.{placed, field, fields_of}
use Rattle.zt_text.specs.ReadCalls.{channel_write, any_call_named, call}
use Rattle.zt_text.specs.ReadLines.{most_line_bytes, fields_in, asked_by, read_as}

and_false : (b : Bool) → (b && false) ≡ false
and_false true = refl
and_false false = refl

refused : (dash some even few hex : Bool) (empty bytes : List ℕ) → dash ≡ false → few ≡ false
    → (if dash then Some empty else (if some && (even && few && hex) then Some bytes else None)) ≡ None
refused dash some even few hex empty bytes d f = rw (d, f, and_false even, and_false some) refl

-- a field of more bytes
pub long_bytes : (digits : List ℕ) → 131072 < length digits → bytes_of digits ≡ None
unfolding bytes_of
long_bytes [] long = absurd (omega arith)
long_bytes (_ ∷ []) long = absurd (omega arith)
long_bytes (a ∷ b ∷ rest) long =
    let field : List ℕ = a ∷ b ∷ rest in
    let few : nat_le (length field) 131072 ≡ false = grind (arith, nat_tests) in
    refused (bytes_eq field (codes "-")) (nat_lt 0 (length field)) (length field % 2 == 0) (nat_le (length field) 131072)
    (list_all is_hex_digit field) [] (hex_bytes field) (and_false (a == 45)) few

-- its line, where that is not too long itself
pub long_write : (digits : List ℕ) → All (λ byte. (byte == 32) ≡ false) digits → 131072 < length digits → length digits ≤ 139000
    → read_as (codes "1025 channel_write 7 " ++ (digits ++ 32 ∷ codes "-")) ≡ Err (BadLine 22)
unfolding decimal_of placed field channel_write any_call_named call asked_by fields_in read_as
long_write digits whole long short =
    let cut : fields_of (digits ++ 32 ∷ codes "-") ≡ digits ∷ fields_of (codes "-") = slice_split_at (λ byte. byte == 32) digits 32 (codes "-") whole refl in
    let none : bytes_of digits ≡ None = long_bytes digits long in
    let behind : length (digits ++ 32 ∷ codes "-") ≡ length digits + 2 = length-append digits (32 ∷ codes "-") in
    let few : nat_lt 140000 (length (codes "1025 channel_write 7 " ++ (digits ++ 32 ∷ codes "-"))) ≡ false = grind (arith, nat_tests, behind, short) in
    rw (few, cut, none) refl

-- a line that is too long is that, whatever stands in it
pub too_long : (line : List ℕ) → most_line_bytes < length line → read_as line ≡ Err LineTooLong
unfolding fields_in read_as
too_long line long =
    let more : nat_lt most_line_bytes (length line) ≡ true = grind (arith, nat_tests, long) in
    rw more refl
