-- Each value of a field has one spelling: a field that reads as a value is the field that shows it.
use Rattle.std.proofs.Common.{lit<, ◌≡◌, ℕ, suc, ◌+◌, ◌*◌, ◌-◌, ◌/◌, ◌%◌, ◌^◌, ◌<◌, inl, inr, Bool, true, false, List, [], ◌∷◌, ◌++◌, length, map, get_or, take, drop, length-drop, take-append-drop, Option, Some, None, ℤ, pos, negsuc, refl, sym, ap, ◌∙◌, subst, arith}
use Rattle.std.specs.Prelude.{◌==◌, ◌&&◌, not, nat_eq, nat_le, nat_lt, codes, option_map, option_and_then, if◌then◌else◌}
use Rattle.std.specs.Char.{is_ascii_digit, digit_value}
use Rattle.std.specs.List.{list_all, starts_with, join_with_byte}
use Rattle.std.specs.Fmt.{decimal, signed_decimal}
use Rattle.std.specs.Str.{bytes_eq}
use Rattle.std.specs.Str.Parse.{AllDigits, digits_value, digits_value_after}
use Rattle.std.proofs.lemmas.Bool.{and_parts, and_cases, not-true, eqb-true, eqb-false, ltb-true, ltb-false, leb-true, agree_below_at}
use Rattle.std.proofs.lemmas.Bool.Decides.{nat_tests}
use Rattle.std.proofs.lemmas.Fmt.{decimal-digits_value}
use Rattle.std.proofs.lemmas.Int.Digits.{digits_value-lt}
use Rattle.std.proofs.lemmas.List.Splits.{length-slice_split, join_with_byte-slice_split}
use Rattle.std.proofs.lemmas.Slice.Eq.{bytes_eq-Decides}
use Rattle.std.proofs.lemmas.Str.Parse.{IsNumeralModel, numerals_by_value, tells_digits}
use Rattle.zt_bits.specs.declared.signal_bits.Signals.{Signals}
use Rattle.zt_rows.specs.declared.calls.Happening.{Happening}
use Rattle.zt_rows.specs.declared.calls.Happening.TheVariants.{Made, Ended, PeerClosed, Leaked}
use Rattle.zt_text.specs.Numbers.{has_leading_zero, is_decimal, decimal_of, is_hex_digit, is_mask, mask_of, signals_of, positive, count_of, negative, code_of, handle_of}
use Rattle.zt_text.specs.Bytes.{hex_digit, hex_text, hex_bytes, is_digits, bytes_of, packet_bytes_of}
use Rattle.zt_text.specs.Fields.{parts_of}
use Rattle.zt_text.specs.Lists.{in_front, each_handle, at_most_64, listed, handles_of}
use Rattle.zt_text.specs.Names.{is_visible, name_of, happening_of}
use Rattle.zt_text.specs.Spellings.{happening_word}
use Rattle.zt_text.specs.ShownNumbers.{hexadecimal, shown_mask, shown_bytes, shown_list}
use Rattle.zt_text.proofs.NumberLemmas.{hex_small}
use Rattle.zt_text.proofs.ShownFields.{mask_read, mask_length, mask_digits_shown}

-- ---- options

pub some_same : {A : Type 0} (a b : A) → Some a ≡ Some b → a ≡ b
some_same a b h = cc

pub none_some : {A : Type 0} (a : A) → None ≡ Some a → ⊥
none_some a h = cc

-- what an option that hangs on a test is, where it is some
pub some_if : {A : Type 0} (b : Bool) (value wanted : A) → (if b then Some value else None) ≡ Some wanted → (b ≡ true) × (value ≡ wanted)
some_if true value wanted h = (refl, some_same value wanted h)
some_if false value wanted h = absurd (none_some wanted h)

some_unless : {A : Type 0} (b : Bool) (value wanted : A) → (if b then None else Some value) ≡ Some wanted → (b ≡ false) × (value ≡ wanted)
some_unless true value wanted h = absurd (none_some wanted h)
some_unless false value wanted h = (refl, some_same value wanted h)

-- ---- decimals

decimal_below : (d : ℕ) → is_ascii_digit d ≡ true → digit_value d < 10
decimal_below d h = grind (arith, nat_tests)

all_decimal : (ds : List ℕ) → list_all is_ascii_digit ds ≡ true → AllDigits 10 ds
all_decimal [] all = tt
all_decimal (d ∷ ds) all =
    let parts = and_parts (is_ascii_digit d) (list_all is_ascii_digit ds) all in
    (decimal_below d parts.0, all_decimal ds parts.1)

-- what begins with a zero is that zero
one_zero : (ds : List ℕ) → 0 < length ds → not (has_leading_zero ds) ≡ true → get_or ds 0 0 ≡ 48 → length ds ≡ 1
one_zero ds some h e =
    elim (and_cases (get_or ds 0 0 == 48) (nat_lt 1 (length ds)) (not-true (has_leading_zero ds) h)) [
      | inl other ↦ absurd (eqb-false (get_or ds 0 0) 48 other e)
      | inr short ↦ let few = ltb-false 1 (length ds) short in omega arith
    ]

numerals : IsNumeralModel (AllDigits 10) (digits_value 10)
numerals = numerals_by_value (AllDigits 10) tells_digits

digits_spelled : (ds : List ℕ) → is_decimal ds ≡ true → digits_value 10 ds < 2 ^ 64 → ds ≡ decimal (digits_value 10 ds)
digits_spelled ds h small =
    let whole = and_parts (nat_lt 0 (length ds) && not (has_leading_zero ds)) (list_all is_ascii_digit ds) h in
    let front = and_parts (nat_lt 0 (length ds)) (not (has_leading_zero ds)) whole.0 in
    let some = ltb-true 0 (length ds) front.0 in
    sym (decimal-digits_value numerals ds (all_decimal ds whole.1) some (one_zero ds some front.1) small)

-- a number in decimal
pub decimal_spelled : (most : ℕ) → most < 2 ^ 64 → (field : List ℕ) (n : ℕ) → decimal_of most field ≡ Some n → field ≡ decimal n
unfolding decimal_of
decimal_spelled most fits field n h =
    let tests = some_if (is_decimal field && nat_le (digits_value 10 field) most) (digits_value 10 field) n h in
    let parts = and_parts (is_decimal field) (nat_le (digits_value 10 field) most) tests.0 in
    let low = leb-true (digits_value 10 field) most parts.1 in
    digits_spelled field parts.0 (omega arith) ∙ ap decimal tests.1

positive_kept : (o : Option ℕ) (n : ℕ) → positive o ≡ Some n → o ≡ Some n
positive_kept None n h = absurd (none_some n h)
positive_kept (Some m) n h = ap Some (some_unless (m == 0) m n h).1

-- a number of steps
pub count_spelled : (field : List ℕ) (n : ℕ) → count_of field ≡ Some n → field ≡ decimal n
count_spelled field n h = decimal_spelled 1048576 (lit< tt) field n (positive_kept (decimal_of 1048576 field) n h)

-- ---- codes

below_zero : (digits : List ℕ) (z : ℤ) (o : Option ℕ) → decimal_of (2 ^ 63) digits ≡ o → option_and_then negative o ≡ Some z → 45 ∷ digits ≡ signed_decimal z
below_zero digits z None is h = absurd (none_some z h)
below_zero digits z (Some n) is h =
    let tests = some_unless (n == 0) (negsuc (n - 1)) z h in
    let more = eqb-false n 0 tests.0 in
    let same : n ≡ suc (n - 1) = omega arith in
    ap (λ ds. 45 ∷ ds) (decimal_spelled (2 ^ 63) (lit< tt) digits n is ∙ ap decimal same) ∙ ap signed_decimal tests.1

from_zero : (field : List ℕ) (z : ℤ) (o : Option ℕ) → decimal_of (2 ^ 63 - 1) field ≡ o → option_map pos o ≡ Some z → field ≡ signed_decimal z
from_zero field z None is h = absurd (none_some z h)
from_zero field z (Some n) is h = decimal_spelled (2 ^ 63 - 1) (lit< tt) field n is ∙ ap signed_decimal (some_same (pos n) z h)

signed : (b : Bool) (first : ℕ) (digits : List ℕ) (z : ℤ) → (first == 45) ≡ b
    → (if b then option_and_then negative (decimal_of (2 ^ 63) digits) else option_map pos (decimal_of (2 ^ 63 - 1) (first ∷ digits))) ≡ Some z
    → first ∷ digits ≡ signed_decimal z
signed true first digits z is h =
    ap (λ byte. byte ∷ digits) (eqb-true first 45 is) ∙ below_zero digits z (decimal_of (2 ^ 63) digits) refl h
signed false first digits z is h = from_zero (first ∷ digits) z (decimal_of (2 ^ 63 - 1) (first ∷ digits)) refl h

-- a code
pub code_spelled : (field : List ℕ) (z : ℤ) → code_of field ≡ Some z → field ≡ signed_decimal z
unfolding code_of
code_spelled [] z h = absurd (none_some z h)
code_spelled (first ∷ digits) z h = signed (first == 45) first digits z refl h

-- ---- hexadecimal digits

digit_tested : (b : ℕ) → b < 103 → is_hex_digit b ≡ (is_hex_digit b && (hex_digit (digit_value b) == b))
digit_tested b low = agree_below_at is_hex_digit (λ k. is_hex_digit k && (hex_digit (digit_value k) == k)) 103 b refl low

digit_low : (b : ℕ) → is_hex_digit b ≡ true → b < 103
digit_low b h = grind (arith, nat_tests)

-- the digit of what a digit stands for is that digit
digit_back : (b : ℕ) → is_hex_digit b ≡ true → hex_digit (digit_value b) ≡ b
digit_back b h =
    let tested = and_parts (is_hex_digit b) (hex_digit (digit_value b) == b) (sym (digit_tested b (digit_low b h)) ∙ h) in
    eqb-true (hex_digit (digit_value b)) b tested.1

same_digit : (a b : ℕ) → is_hex_digit a ≡ true → is_hex_digit b ≡ true → digit_value a ≡ digit_value b → a ≡ b
same_digit a b one other same = sym (digit_back a one) ∙ ap hex_digit same ∙ digit_back b other

last_place : (m n a b : ℕ) → a < 16 → b < 16 → m * 16 + a ≡ n * 16 + b → (m ≡ n) × (a ≡ b)
last_place m n a b low small same = omega arith

-- as many digits of one number are the same
same_digits : (xs ys : List ℕ) (m n : ℕ) → list_all is_hex_digit xs ≡ true → list_all is_hex_digit ys ≡ true → length xs ≡ length ys
    → digits_value_after 16 m xs ≡ digits_value_after 16 n ys → (m ≡ n) × (xs ≡ ys)
same_digits [] [] m n all others long same = (same, refl)
same_digits [] (y ∷ ys) m n all others long same = absurd (omega (arith, long))
same_digits (x ∷ xs) [] m n all others long same = absurd (omega (arith, long))
same_digits (x ∷ xs) (y ∷ ys) m n all others long same =
    let here = and_parts (is_hex_digit x) (list_all is_hex_digit xs) all in
    let there = and_parts (is_hex_digit y) (list_all is_hex_digit ys) others in
    let rest = same_digits xs ys (m * 16 + digit_value x) (n * 16 + digit_value y) here.1 there.1 (omega (arith, long)) same in
    let place = last_place m n (digit_value x) (digit_value y) (hex_small x here.0) (hex_small y there.0) rest.0 in
    (place.0, ap (λ d. d ∷ xs) (same_digit x y here.0 there.0 place.1) ∙ ap (λ ds. y ∷ ds) rest.1)

-- ---- masks

all_below : (ds : List ℕ) → list_all is_hex_digit ds ≡ true → AllDigits 16 ds
all_below [] all = tt
all_below (d ∷ ds) all =
    let parts = and_parts (is_hex_digit d) (list_all is_hex_digit ds) all in
    (hex_small d parts.0, all_below ds parts.1)

mask_value : (n : ℕ) → n < 2 ^ 32 → digits_value 16 (hexadecimal 8 n) ≡ n
unfolding mask_of
mask_value n small = (some_if (is_mask (shown_mask n)) (digits_value 16 (hexadecimal 8 n)) n (mask_read n small)).1

eight_fit : (value n k : ℕ) → k ≡ 8 → value < 16 ^ k → value ≡ n → n < 2 ^ 32
eight_fit value n k eight below same =
    let low : value < 16 ^ 8 = subst (λ j. value < 16 ^ j) eight below in
    omega arith

eight_spelled : (ds : List ℕ) (n : ℕ) → length ds ≡ 8 → list_all is_hex_digit ds ≡ true → digits_value 16 ds ≡ n → ds ≡ hexadecimal 8 n
eight_spelled ds n eight all value =
    let small = eight_fit (digits_value 16 ds) n (length ds) eight (digits_value-lt 16 ds (all_below ds all)) value in
    (same_digits ds (hexadecimal 8 n) 0 0 all (mask_digits_shown n small) (eight ∙ sym (mask_length n small)) (value ∙ sym (mask_value n small))).1

-- what begins with `0x` is `0x` and what stands behind
behind_0x : (field : List ℕ) → starts_with nat_eq field (codes "0x") ≡ true → field ≡ 48 ∷ 120 ∷ drop 2 field
behind_0x field h =
    let front : codes "0x" ≡ take 2 field = (bytes_eq-Decides (codes "0x") (take 2 field)).0 h in
    sym (take-append-drop 2 field) ∙ ap (λ bytes. bytes ++ drop 2 field) (sym front)

-- a mask
pub mask_spelled : (field : List ℕ) (n : ℕ) → mask_of field ≡ Some n → field ≡ shown_mask n
unfolding mask_of
mask_spelled field n h =
    let tests = some_if (is_mask field) (digits_value 16 (drop 2 field)) n h in
    let whole = and_parts (length field == 10 && starts_with nat_eq field (codes "0x")) (list_all is_hex_digit (drop 2 field)) tests.0 in
    let front = and_parts (length field == 10) (starts_with nat_eq field (codes "0x")) whole.0 in
    let ten = eqb-true (length field) 10 front.0 in
    let behind = length-drop 2 field in
    behind_0x field front.1 ∙ ap (λ ds. 48 ∷ 120 ∷ ds) (eight_spelled (drop 2 field) n (omega arith) whole.1 tests.1)

abbrev as_signals : ℕ → Signals
as_signals n = record { 0 = n }

mapped : (o : Option ℕ) (s : Signals) → option_map as_signals o ≡ Some s → o ≡ Some s.0
mapped None s h = absurd (none_some s h)
mapped (Some n) s h = ap (λ (t : Signals). Some t.0) (some_same (as_signals n) s h)

pub signals_spelled : (field : List ℕ) (s : Signals) → signals_of field ≡ Some s → field ≡ shown_mask s.0
signals_spelled field s h = mask_spelled field s.0 (mapped (mask_of field) s h)

-- ---- bytes

one_byte : (a b : ℕ) → b < 16 → ((a * 16 + b) / 16 ≡ a) × ((a * 16 + b) % 16 ≡ b)
one_byte a b low = omega arith

pair_same : (a b c d : ℕ) (xs ys : List ℕ) → c ≡ a → d ≡ b → xs ≡ ys → a ∷ b ∷ xs ≡ c ∷ d ∷ ys
pair_same a b c d xs ys p q r = cc

pairs_spelled : (ds : List ℕ) → length ds % 2 ≡ 0 → list_all is_hex_digit ds ≡ true → ds ≡ hex_text (hex_bytes ds)
unfolding hex_text hex_bytes
pairs_spelled [] even all = refl
pairs_spelled (a ∷ []) even all = absurd (omega arith)
pairs_spelled (a ∷ b ∷ rest) even all =
    let first = and_parts (is_hex_digit a) (list_all is_hex_digit (b ∷ rest)) all in
    let second = and_parts (is_hex_digit b) (list_all is_hex_digit rest) first.1 in
    let byte = one_byte (digit_value a) (digit_value b) (hex_small b second.0) in
    pair_same a b (hex_digit ((digit_value a * 16 + digit_value b) / 16)) (hex_digit ((digit_value a * 16 + digit_value b) % 16)) rest (hex_text (hex_bytes rest))
    (ap hex_digit byte.0 ∙ digit_back a first.0) (ap hex_digit byte.1 ∙ digit_back b second.0) (pairs_spelled rest (omega arith) second.1)

some_pairs : (ds : List ℕ) → 0 < length ds → length ds % 2 ≡ 0 → list_all is_hex_digit ds ≡ true → ds ≡ shown_bytes (hex_bytes ds)
unfolding hex_bytes
some_pairs [] some even all = absurd (omega arith)
some_pairs (a ∷ []) some even all = absurd (omega arith)
some_pairs (a ∷ b ∷ rest) some even all = pairs_spelled (a ∷ b ∷ rest) even all

digit_parts : (ds : List ℕ) → is_digits ds ≡ true → (length ds % 2 ≡ 0) × (list_all is_hex_digit ds ≡ true)
digit_parts ds h =
    let all = and_parts (length ds % 2 == 0 && nat_le (length ds) 131072) (list_all is_hex_digit ds) h in
    let numbers = and_parts (length ds % 2 == 0) (nat_le (length ds) 131072) all.0 in
    (eqb-true (length ds % 2) 0 numbers.0, all.1)

dash_or_pairs : (dash : Bool) (field empty bytes : List ℕ) → bytes_eq field (codes "-") ≡ dash → empty ≡ []
    → (if dash then Some empty else (if nat_lt 0 (length field) && is_digits field then Some (hex_bytes field) else None)) ≡ Some bytes
    → field ≡ shown_bytes bytes
dash_or_pairs true field empty bytes is none h =
    (bytes_eq-Decides field (codes "-")).0 is ∙ ap shown_bytes (sym none ∙ some_same empty bytes h)
dash_or_pairs false field empty bytes is none h =
    let tests = some_if (nat_lt 0 (length field) && is_digits field) (hex_bytes field) bytes h in
    let parts = and_parts (nat_lt 0 (length field)) (is_digits field) tests.0 in
    let digits = digit_parts field parts.1 in
    some_pairs field (ltb-true 0 (length field) parts.0) digits.0 digits.1 ∙ ap shown_bytes tests.1

-- the bytes of a message
pub bytes_spelled : (field bytes : List ℕ) → bytes_of field ≡ Some bytes → field ≡ shown_bytes bytes
unfolding bytes_of
bytes_spelled field bytes h = dash_or_pairs (bytes_eq field (codes "-")) field [] bytes refl refl h

-- the bytes of a packet
pub packet_bytes_spelled : (field bytes : List ℕ) → packet_bytes_of field ≡ Some bytes → field ≡ shown_bytes bytes
unfolding packet_bytes_of
packet_bytes_spelled field bytes h =
    let tests = some_if (list_all is_hex_digit field && (length field == 64)) (hex_bytes field) bytes h in
    let parts = and_parts (list_all is_hex_digit field) (length field == 64) tests.0 in
    let long = eqb-true (length field) 64 parts.1 in
    some_pairs field (omega arith) (omega arith) parts.0 ∙ ap shown_bytes tests.1

-- ---- lists of handles

in_front_some : (element : Option ℕ) (others : Option (List ℕ)) (handles : List ℕ) → in_front element others ≡ Some handles
    → (first : ℕ) × (rest : List ℕ) × (element ≡ Some first) × (others ≡ Some rest) × (first ∷ rest ≡ handles)
in_front_some (Some first) (Some rest) handles h = (first, rest, refl, refl, some_same (first ∷ rest) handles h)
in_front_some (Some first) None handles h = absurd (none_some handles h)
in_front_some None (Some rest) handles h = absurd (none_some handles h)
in_front_some None None handles h = absurd (none_some handles h)

each_spelled : (parts : List (List ℕ)) (handles : List ℕ) → each_handle parts ≡ Some handles → parts ≡ map decimal handles
each_spelled [] handles h = ap (map decimal) (some_same [] handles h)
each_spelled (part ∷ parts) handles h =
    let read = in_front_some (handle_of part) (each_handle parts) handles h in
    let first = decimal_spelled (2 ^ 32 - 1) (lit< tt) part read.0 read.2 in
    ap (λ word. word ∷ parts) first ∙ ap (λ words. decimal read.0 ∷ words) (each_spelled parts read.1 read.3) ∙ ap (map decimal) read.4

few_kept : (o : Option (List ℕ)) (handles : List ℕ) → at_most_64 o ≡ Some handles → o ≡ Some handles
few_kept None handles h = absurd (none_some handles h)
few_kept (Some some) handles h = ap Some (some_if (nat_le (length some) 64) some handles h).1

joined : (field handles : List ℕ) → parts_of 44 field ≡ map decimal handles → field ≡ shown_list decimal handles
joined field [] parts =
    let some = length-slice_split (λ byte. byte == 44) field in
    let none : length (parts_of 44 field) ≡ 0 = ap length parts in
    absurd (omega (arith, some, none))
joined field (h ∷ hs) parts = sym (join_with_byte-slice_split 44 field) ∙ ap (join_with_byte 44) parts

listed_spelled : (field handles : List ℕ) → listed field ≡ Some handles → field ≡ shown_list decimal handles
unfolding listed
listed_spelled field handles h =
    joined field handles (each_spelled (parts_of 44 field) handles (few_kept (each_handle (parts_of 44 field)) handles h))

dash_or_listed : (dash : Bool) (field empty handles : List ℕ) → bytes_eq field (codes "-") ≡ dash → empty ≡ []
    → (if dash then Some empty else listed field) ≡ Some handles → field ≡ shown_list decimal handles
dash_or_listed true field empty handles is none h =
    (bytes_eq-Decides field (codes "-")).0 is ∙ ap (shown_list decimal) (sym none ∙ some_same empty handles h)
dash_or_listed false field empty handles is none h = listed_spelled field handles h

-- a list of handles
pub handles_spelled : (field handles : List ℕ) → handles_of field ≡ Some handles → field ≡ shown_list decimal handles
unfolding handles_of
handles_spelled field handles h = dash_or_listed (bytes_eq field (codes "-")) field [] handles refl refl h

-- ---- names and happenings

pub name_spelled : (field name : List ℕ) → name_of field ≡ Some name → field ≡ name
unfolding name_of
name_spelled field name h = (some_if (nat_lt 0 (length field) && list_all is_visible field) field name h).1

happening_if : (b : Bool) (field word : List ℕ) (this wanted : Happening) (other : Option Happening) → bytes_eq field word ≡ b → word ≡ happening_word this
    → (other ≡ Some wanted → field ≡ happening_word wanted) → (if b then Some this else other) ≡ Some wanted → field ≡ happening_word wanted
happening_if true field word this wanted other is shown rest h = (bytes_eq-Decides field word).0 is ∙ shown ∙ ap happening_word (some_same this wanted h)
happening_if false field word this wanted other is shown rest h = rest h

happening_named : (field word : List ℕ) (this wanted : Happening) (other : Option Happening) → word ≡ happening_word this
    → (other ≡ Some wanted → field ≡ happening_word wanted) → (if bytes_eq field word then Some this else other) ≡ Some wanted → field ≡ happening_word wanted
happening_named field word this wanted other shown rest h = happening_if (bytes_eq field word) field word this wanted other refl shown rest h

pub happening_spelled : (field : List ℕ) (what : Happening) → happening_of field ≡ Some what → field ≡ happening_word what
unfolding happening_of
happening_spelled field what =
    happening_named field (codes "made") Made what _ refl
    (happening_named field (codes "ended") Ended what _ refl
    (happening_named field (codes "peer_closed") PeerClosed what _ refl
    (happening_named field (codes "leaked") Leaked what None refl (λ h. absurd (none_some what h)))))
