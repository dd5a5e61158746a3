-- What is shown reads as what it was: decimals, masks, codes and bytes.
use Rattle.std.proofs.Common.{lit<, lit≤, ◌≡◌, ℕ, zero, suc, ◌+◌, ◌*◌, ◌-◌, ◌/◌, ◌%◌, ◌^◌, ◌<◌, ◌≤◌, inl, inr, Bool, true, false, List, [], ◌∷◌, ◌++◌, length, replicate, Some, ℤ, pos, negsuc, refl, sym, ◌∙◌, arith, All, get_or, length-append}
use Rattle.std.specs.Prelude.{◌==◌, ◌&&◌, nat_le, nat_lt, slice_index, codes, if◌then◌else◌}
use Rattle.std.specs.Char.{is_ascii_digit, digit_value}
use Rattle.std.specs.List.{list_all}
use Rattle.std.specs.Fmt.{decimal, signed_decimal, digits, digits_onto, digit_glyph}
use Rattle.std.specs.Str.{bytes_eq}
use Rattle.std.specs.Str.Parse.{AllDigits, digits_value}
use Rattle.std.proofs.lemmas.Bool.{and_parts, eqb-true, eq-eqb, cases_lt}
use Rattle.std.proofs.lemmas.Bool.Decides.{nat_tests}
use Rattle.std.proofs.lemmas.Fmt.{decimal_is_IsNumeral, digits_is_IsNumeral, decimal_digit, first_decimal}
use Rattle.std.proofs.lemmas.Grind.{pow_more}
use Rattle.std.proofs.lemmas.List.{length-replicate}
use Rattle.std.proofs.lemmas.List.Elements.{All-head, All-tail}
use Rattle.std.proofs.lemmas.List.Folds.{list_all-append}
use Rattle.std.proofs.lemmas.Str.Parse.{digit_from_value}
use Rattle.zt_text.specs.Numbers.{has_leading_zero, decimal_of, is_hex_digit, mask_of, code_of}
use Rattle.zt_text.specs.Bytes.{hex_digit, hex_text, hex_bytes, bytes_of, packet_bytes_of}
use Rattle.zt_text.specs.Calls.{IsByte, IsCode}
use Rattle.zt_text.specs.ShownNumbers.{hexadecimal, shown_mask, shown_bytes}
use Rattle.zt_text.proofs.NumberLemmas.{unsigned_code}

-- ---- decimals

all_decimal : (ds : List ℕ) → AllDigits 10 ds → list_all is_ascii_digit ds ≡ true
all_decimal [] h = refl
all_decimal (d ∷ ds) (first, rest) =
    let range = digit_from_value d first in
    let here : is_ascii_digit d ≡ true = grind (arith, nat_tests) in
    rw (here, all_decimal ds rest) refl

pub decimal_digits : (n : ℕ) → n < 2 ^ 64 → list_all is_ascii_digit (decimal n) ≡ true
decimal_digits n small = all_decimal (decimal n) (decimal_is_IsNumeral n small).0.1

-- only `0` begins with a zero
no_zero : (n : ℕ) → n < 2 ^ 64 → has_leading_zero (decimal n) ≡ false
no_zero n small = elim (cases_lt n 10) [
  | inl one ↦ let e = decimal_digit n one in rw e (grind (arith, nat_tests))
  | inr more ↦
      let first = first_decimal n (omega arith) small in
      let other : (slice_index (decimal n) 0 == 48) ≡ false = grind (arith, nat_tests) in
      rw other refl
]

pub decimal_read : (most n : ℕ) → n ≤ most → most < 2 ^ 64 → decimal_of most (decimal n) ≡ Some n
unfolding decimal_of
decimal_read most n low fits =
    let numeral = decimal_is_IsNumeral n (omega arith) in
    let some : nat_lt 0 (length (decimal n)) ≡ true = grind (arith, nat_tests, numeral.0.0) in
    let within : nat_le n most ≡ true = grind (arith, nat_tests) in
    rw (some, no_zero n (omega arith), decimal_digits n (omega arith), numeral.1, within) refl

-- ---- codes

first_digit : (ds : List ℕ) → 0 < length ds → AllDigits 10 ds → get_or ds 0 0 ≡ 45 → ⊥
first_digit [] some h e = omega arith
first_digit (d ∷ ds) some (first, rest) e = let range = digit_from_value d first in omega (arith, range)

pub code_read : (z : ℤ) → IsCode z → code_of (signed_decimal z) ≡ Some z
unfolding code_of
code_read (pos n) small =
    let numeral = decimal_is_IsNumeral n (omega arith) in
    let read = decimal_read (2 ^ 63 - 1) n (omega arith) (lit< tt) in
    sym (unsigned_code (decimal n) (Some (pos n)) (rw read refl) (omega (arith, numeral.0.0)) (first_digit (decimal n) numeral.0.0 numeral.0.1))
code_read (negsuc n) small =
    let read = decimal_read (2 ^ 63) (suc n) (omega arith) (lit< tt) in
    let same : suc n - 1 ≡ n = omega arith in
    let some : (suc n == 0) ≡ false = grind (arith, nat_tests) in
    rw (read, some, same) refl

-- ---- masks

hex_glyph : (d : ℕ) → d < 16 → is_hex_digit (digit_glyph false d) ≡ true
hex_glyph d small = elim (cases_lt d 10) [
  | inl low ↦ let t : nat_lt d 10 ≡ true = grind (arith, nat_tests) in rw t (grind (arith, nat_tests))
  | inr high ↦ let t : nat_lt d 10 ≡ false = grind (arith, nat_tests) in rw t (grind (arith, nat_tests))
]

hex_onto : (k n : ℕ) (acc : List ℕ) → list_all is_hex_digit acc ≡ true → list_all is_hex_digit (digits_onto k 16 false n acc) ≡ true
hex_onto zero n acc h = h
hex_onto (suc k) n acc h =
    let glyph = hex_glyph (n % 16) (omega arith) in
    let more : list_all is_hex_digit (digit_glyph false (n % 16) ∷ acc) ≡ true = rw (glyph, h) refl in
    elim (n / 16 == 0) as (λ b. list_all is_hex_digit (if b then digit_glyph false (n % 16) ∷ acc else digits_onto k 16 false (n / 16) (digit_glyph false (n % 16) ∷ acc)) ≡ true) [
      | true ↦ more
      | false ↦ hex_onto k (n / 16) (digit_glyph false (n % 16) ∷ acc) more
    ]

few_onto : (k j n : ℕ) (acc : List ℕ) → n < 16 ^ (j + 1) → length (digits_onto k 16 false n acc) ≤ j + 1 + length acc
few_onto zero j n acc small = omega arith
few_onto (suc k) zero n acc small =
    let none : n / 16 ≡ 0 = omega (arith, small) in
    let t : (n / 16 == 0) ≡ true = eq-eqb (n / 16) 0 none in
    rw t (omega arith)
few_onto (suc k) (suc i) n acc small =
    elim (n / 16 == 0) as (λ b. length (if b then digit_glyph false (n % 16) ∷ acc else digits_onto k 16 false (n / 16) (digit_glyph false (n % 16) ∷ acc)) ≤ suc i + 1 + length acc) [
      | true ↦ omega arith
      | false ↦
          let power : 16 ^ (i + 1 + 1) ≡ 16 ^ (i + 1) * 16 = pow_more 16 (i + 1) in
          let same : suc i + 1 ≡ i + 1 + 1 = omega arith in
          let below : n < 16 ^ (i + 1 + 1) = rw same at small in
          let rest = few_onto k i (n / 16) (digit_glyph false (n % 16) ∷ acc) (omega (arith, power, below)) in
          omega (arith, rest)
    ]

all_zeros : (k : ℕ) → list_all is_hex_digit (replicate k 48) ≡ true
all_zeros zero = refl
all_zeros (suc k) = all_zeros k

zeros_value : (k : ℕ) (ds : List ℕ) → digits_value 16 (replicate k 48 ++ ds) ≡ digits_value 16 ds
zeros_value zero ds = refl
zeros_value (suc k) ds = zeros_value k ds

-- the eight digits of a mask
record AreEight (n : ℕ) (ds : List ℕ) : Type 0 where
  eight : length ds ≡ 8
  all : list_all is_hex_digit ds ≡ true
  value : digits_value 16 ds ≡ n

hex_all : (n : ℕ) → list_all is_hex_digit (digits 16 false n) ≡ true
unfolding digits
hex_all n = hex_onto 64 n [] refl

hex_few : (n : ℕ) → n < 2 ^ 32 → length (digits 16 false n) ≤ 8
unfolding digits
hex_few n small = few_onto 64 7 n [] (omega arith)

eight_digits : (n : ℕ) → n < 2 ^ 32 → AreEight n (hexadecimal 8 n)
unfolding hexadecimal
eight_digits n small =
    let few = hex_few n small in
    let zeros = length-replicate {A = ℕ} (8 - length (digits 16 false n)) 48 in
    let joined = length-append (replicate (8 - length (digits 16 false n)) 48) (digits 16 false n) in
    let numeral = digits_is_IsNumeral 16 false (lit≤ tt) (lit≤ tt) n (omega arith) in
    record {
      eight = omega (arith, few, zeros, joined);
      all = list_all-append is_hex_digit (replicate (8 - length (digits 16 false n)) 48) (digits 16 false n) ∙ rw (all_zeros (8 - length (digits 16 false n)), hex_all n) refl;
      value = zeros_value (8 - length (digits 16 false n)) (digits 16 false n) ∙ numeral.1;
    }

of_eight : (n : ℕ) (ds : List ℕ) → AreEight n ds → mask_of (48 ∷ 120 ∷ ds) ≡ Some n
unfolding mask_of
of_eight n ds is = rw (is.eight, is.all, is.value) refl

pub mask_read : (n : ℕ) → n < 2 ^ 32 → mask_of (shown_mask n) ≡ Some n
mask_read n small = of_eight n (hexadecimal 8 n) (eight_digits n small)

pub mask_digits_shown : (n : ℕ) → n < 2 ^ 32 → list_all is_hex_digit (hexadecimal 8 n) ≡ true
mask_digits_shown n small = (eight_digits n small).all

pub mask_length : (n : ℕ) → n < 2 ^ 32 → length (hexadecimal 8 n) ≡ 8
mask_length n small = (eight_digits n small).eight

-- ---- bytes

-- the digit of each number below sixteen reads as it
abbrev is_read : ℕ → Bool
is_read n = is_hex_digit (hex_digit n) && (digit_value (hex_digit n) == n)

abbrev are_read : ℕ → Bool
are_read zero = true
are_read (suc n) = is_read n && are_read n

read_at : (n k : ℕ) → are_read n ≡ true → k < n → is_read k ≡ true
read_at zero k h low = absurd (omega arith)
read_at (suc n) k h low =
    let parts = and_parts (is_read n) (are_read n) h in
    elim (cases_lt k n) [
      | inl below ↦ read_at n k parts.1 below
      | inr top ↦ let e : k ≡ n = omega arith in rw e parts.0
    ]

hex_digit_read : (d : ℕ) → d < 16 → (is_hex_digit (hex_digit d) ≡ true) × (digit_value (hex_digit d) ≡ d)
hex_digit_read d small =
    let parts = and_parts (is_hex_digit (hex_digit d)) (digit_value (hex_digit d) == d) (read_at 16 d refl small) in
    (parts.0, eqb-true (digit_value (hex_digit d)) d parts.1)

-- the digits of bytes read as them
pub record AreDigitsOf (bytes ds : List ℕ) : Type 0 where
  pub twice : length ds ≡ 2 * length bytes
  pub all : list_all is_hex_digit ds ≡ true
  pub value : hex_bytes ds ≡ bytes

pub digits_of : (bytes : List ℕ) → All IsByte bytes → AreDigitsOf bytes (hex_text bytes)
unfolding hex_text hex_bytes
digits_of [] are = record { twice = refl; all = refl; value = refl }
digits_of (byte ∷ bytes) are =
    let here : byte < 256 = All-head IsByte byte bytes are in
    let rest = digits_of bytes (All-tail IsByte byte bytes are) in
    let high = hex_digit_read (byte / 16) (omega arith) in
    let low = hex_digit_read (byte % 16) (omega arith) in
    let whole : byte / 16 * 16 + byte % 16 ≡ byte = omega arith in
    record {
      twice = omega (arith, rest.twice);
      all = rw (high.0, low.0, rest.all) refl;
      value = rw (high.1, low.1, whole, rest.value) refl;
    }

-- no hexadecimal digit is a dash
pub not_dash : (ds : List ℕ) → 0 < length ds → list_all is_hex_digit ds ≡ true → bytes_eq ds (codes "-") ≡ false
not_dash [] some all = absurd (omega arith)
not_dash (d ∷ ds) some all =
    let parts = and_parts (is_hex_digit d) (list_all is_hex_digit ds) all in
    let other : (d == 45) ≡ false = grind (arith, nat_tests) in
    rw other refl

bytes_in_digits : (bytes ds : List ℕ) → AreDigitsOf bytes ds → 0 < length bytes → length bytes ≤ 65536 → bytes_of ds ≡ Some bytes
unfolding bytes_of
bytes_in_digits bytes ds are some few =
    let dash = not_dash ds (omega (arith, are.twice)) are.all in
    let more : nat_lt 0 (length ds) ≡ true = grind (arith, nat_tests, are.twice) in
    let even : (length ds % 2 == 0) ≡ true = eq-eqb (length ds % 2) 0 (omega (arith, are.twice)) in
    let most : nat_le (length ds) 131072 ≡ true = grind (arith, nat_tests, are.twice) in
    rw (dash, more, even, most, are.all, are.value) refl

pub bytes_read : (bytes : List ℕ) → All IsByte bytes → length bytes ≤ 65536 → bytes_of (shown_bytes bytes) ≡ Some bytes
unfolding bytes_of
bytes_read [] are few = refl
bytes_read (byte ∷ bytes) are few = bytes_in_digits (byte ∷ bytes) (hex_text (byte ∷ bytes)) (digits_of (byte ∷ bytes) are) (omega arith) few

packet_in_digits : (bytes ds : List ℕ) → AreDigitsOf bytes ds → length bytes ≡ 32 → packet_bytes_of ds ≡ Some bytes
unfolding packet_bytes_of
packet_in_digits bytes ds are whole =
    let long : (length ds == 64) ≡ true = eq-eqb (length ds) 64 (omega (arith, are.twice)) in
    rw (long, are.all, are.value) refl

pub packet_bytes_read : (bytes : List ℕ) → All IsByte bytes → length bytes ≡ 32 → packet_bytes_of (shown_bytes bytes) ≡ Some bytes
packet_bytes_read [] are whole = absurd (omega arith)
packet_bytes_read (byte ∷ bytes) are whole = packet_in_digits (byte ∷ bytes) (hex_text (byte ∷ bytes)) (digits_of (byte ∷ bytes) are) whole
