-- Bytes in digits: what the digits of a line decode to, and how many bytes they are.
use Rattle.std.proofs.Common.{◌≡◌, ℕ, ◌+◌, ◌*◌, ◌/◌, ◌%◌, ◌<◌, ◌≤◌, Bool, true, false, List, [], ◌∷◌, ◌++◌, length, get_or, take, set, Some, None, refl, sym, ap, ◌∙◌, append_assoc, arith}
use Rattle.std.specs.Prelude.{◌==◌, ◌&&◌, nat_le}
use Rattle.std.specs.Char.{digit_value}
use Rattle.std.specs.List.{list_all}
use Rattle.std.proofs.lemmas.List.{take_all, take_more, take_more_set, length-take-le}
use Rattle.std.proofs.lemmas.List.Folds.{list_all_more}
use Rattle.std.proofs.lemmas.Bool.{and_parts, eqb-true, eq-eqb}
use Rattle.std.proofs.lemmas.Bool.Decides.{nat_tests}
use Rattle.hex.specs.Hex.{encode_lower, encode_with}
use Rattle.zt_text.specs.Numbers.{is_hex_digit}
use Rattle.zt_text.specs.Bytes.{hex_digit, hex_text, hex_bytes, is_digits, packet_bytes_of}
use Rattle.zt_text.specs.ShownNumbers.{shown_bytes}

-- a pair of digits more
pushed : (s : List ℕ) (a b : ℕ) → length s % 2 ≡ 0 → hex_bytes (s ++ (a ∷ b ∷ [])) ≡ hex_bytes s ++ ((digit_value a * 16 + digit_value b) ∷ [])
unfolding hex_bytes
pushed [] a b even = refl
pushed (x ∷ []) a b even = absurd (omega arith)
pushed (x ∷ y ∷ rest) a b even = ap (λ bytes. (digit_value x * 16 + digit_value y) ∷ bytes) (pushed rest a b (omega arith))

taken_pair : (s : List ℕ) (n : ℕ) → n + 1 < length s → take (n + 2) s ≡ take n s ++ (get_or s n 0 ∷ get_or s (n + 1) 0 ∷ [])
taken_pair s n low =
    let two : n + 2 ≡ (n + 1) + 1 = omega arith in
    ap (λ m. take m s) two ∙ take_more s (n + 1) 0 low ∙ ap (λ xs. xs ++ (get_or s (n + 1) 0 ∷ [])) (take_more s n 0 (omega arith))
    ∙ append_assoc (take n s) (get_or s n 0 ∷ []) (get_or s (n + 1) 0 ∷ [])

-- and a byte more
pub filled_more : (s bytes : List ℕ) (i high low : ℕ) → length s ≡ 2 * length bytes → i < length bytes → high ≡ digit_value (get_or s (2 * i) 0) → low ≡ digit_value (get_or s (2 * i + 1) 0)
    → take i bytes ≡ hex_bytes (take (2 * i) s) → take (i + 1) (set bytes i (high * 16 + low)) ≡ hex_bytes (take (2 * (i + 1)) s)
filled_more s bytes i high low pairs inside first second so_far =
    let twice : 2 * (i + 1) ≡ 2 * i + 2 = omega arith in
    let short : length (take (2 * i) s) ≡ 2 * i = length-take-le (2 * i) s (omega arith) in
    let byte : digit_value (get_or s (2 * i) 0) * 16 + digit_value (get_or s (2 * i + 1) 0) ≡ high * 16 + low = omega arith in
    take_more_set bytes i (high * 16 + low) inside
    ∙ ap (λ bs. bs ++ ((high * 16 + low) ∷ [])) so_far
    ∙ sym (ap (λ n. hex_bytes (take n s)) twice
    ∙ ap hex_bytes (taken_pair s (2 * i) (omega arith))
    ∙ pushed (take (2 * i) s) (get_or s (2 * i) 0) (get_or s (2 * i + 1) 0) (omega arith)
    ∙ ap (λ b. hex_bytes (take (2 * i) s) ++ (b ∷ [])) byte)

pub filled_all : (s bytes : List ℕ) (i : ℕ) → length s ≡ 2 * length bytes → length bytes ≤ i → take i bytes ≡ hex_bytes (take (2 * i) s) → bytes ≡ hex_bytes s
filled_all s bytes i pairs end so_far =
    sym (take_all i bytes end) ∙ so_far ∙ ap hex_bytes (take_all (2 * i) s (omega arith))

-- a byte more is looked at
pub looked_more : (s : List ℕ) (i : ℕ) (all here : Bool) → i < length s → all ≡ list_all is_hex_digit (take i s) → here ≡ is_hex_digit (get_or s i 0)
    → (all && here) ≡ list_all is_hex_digit (take (i + 1) s)
looked_more s i all here low so_far is =
    ap (λ a. a && here) so_far ∙ ap (λ h. list_all is_hex_digit (take i s) && h) is ∙ sym (list_all_more is_hex_digit s i 0 low)

pub looked_all : (s : List ℕ) (i : ℕ) (all : Bool) → length s ≤ i → all ≡ list_all is_hex_digit (take i s) → all ≡ list_all is_hex_digit s
looked_all s i all end so_far = so_far ∙ ap (list_all is_hex_digit) (take_all i s end)

-- the parts of the test
parts : (s : List ℕ) → is_digits s ≡ true → (length s % 2 ≡ 0) × (length s ≤ 131072) × (list_all is_hex_digit s ≡ true)
parts s h =
    let all = and_parts (length s % 2 == 0 && nat_le (length s) 131072) (list_all is_hex_digit s) h in
    let numbers = and_parts (length s % 2 == 0) (nat_le (length s) 131072) all.0 in
    (eqb-true (length s % 2) 0 numbers.0, grind (arith, nat_tests), all.1)

half : (s : List ℕ) → length s % 2 ≡ 0 → 2 * length (hex_bytes s) ≡ length s
unfolding hex_bytes
half [] even = refl
half (a ∷ []) even = absurd (omega arith)
half (a ∷ b ∷ rest) even = let e = half rest (omega arith) in omega (arith, e)

-- they are no more bytes than a message takes
pub length_hex_bytes : (s : List ℕ) → is_digits s ≡ true → length (hex_bytes s) ≤ 65536
length_hex_bytes s h = let p = parts s h in let e = half s p.0 in omega (arith, e, p.1)

-- they are pairs
pub digits_pairs : (s : List ℕ) → is_digits s ≡ true → length s ≡ 2 * (length s / 2)
digits_pairs s h = let p = parts s h in omega (arith, p.0)

pub digits_all : (s : List ℕ) → is_digits s ≡ true → list_all is_hex_digit s ≡ true
digits_all s h = (parts s h).2

-- the kit's digits of bytes
encoded : (bytes : List ℕ) → encode_lower bytes ≡ hex_text bytes
unfolding encode_with hex_text
encoded [] = refl
encoded (byte ∷ bytes) = ap (λ digits. hex_digit (byte / 16) ∷ hex_digit (byte % 16) ∷ digits) (encoded bytes)

-- how bytes are shown, where there are some
pub shown_bytes-some : (bytes : List ℕ) → (length bytes == 0) ≡ false → encode_lower bytes ≡ shown_bytes bytes
shown_bytes-some [] some = cc some
shown_bytes-some (byte ∷ bytes) some = encoded (byte ∷ bytes)

-- what is not 64 digits long is not read
pub packet_unread : (s : List ℕ) → (list_all is_hex_digit s && length s == 64) ≡ false → None ≡ packet_bytes_of s
unfolding packet_bytes_of
packet_unread s bad = rw bad refl

-- 64 digits are
pub packet_read : (s bytes : List ℕ) → list_all is_hex_digit s ≡ true → length s ≡ 64 → bytes ≡ hex_bytes s → Some bytes ≡ packet_bytes_of s
unfolding packet_bytes_of
packet_read s bytes all len is = let same : (length s == 64) ≡ true = eq-eqb (length s) 64 len in rw (all, same) (ap Some is)
