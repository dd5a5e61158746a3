-- Numbers read digit by digit from the left: how the number so far bounds the whole, and what one byte that is no
-- digit settles.
use Rattle.std.proofs.Common.{◌≡◌, ℕ, ◌+◌, ◌*◌, ◌-◌, ◌^◌, ◌<◌, ◌≤◌, Bool, true, false, ◌&&◌, List, [], ◌∷◌, length, get_or, take, refl, sym, ap, ◌∙◌, arith, lit≤, lit<, IsTrue, nat_eq, drop, Option, Some, None, length-drop}
use Rattle.std.specs.Char.{digit_value, is_ascii_digit}
use Rattle.std.specs.List.{list_all, starts_with}
use Rattle.std.specs.Option.{SomeIff, option_map}
use Rattle.std.specs.Prelude.{◌==◌, codes, ℤ, pos, if◌then◌else◌}
use Rattle.std.proofs.lemmas.Bool.{eq-eqb}
use Rattle.std.specs.Str.Parse.{digits_value}
use Rattle.std.proofs.lemmas.Int.Digits.{digits_value_more}
use Rattle.std.proofs.lemmas.Str.Parse.{digits_value-take-le}
use Rattle.std.proofs.lemmas.List.{take_all}
use Rattle.std.proofs.lemmas.List.Folds.{list_all_at, list_all_more}
use Rattle.std.proofs.lemmas.Bool.Decides.{nat_tests}
use Rattle.std.proofs.lemmas.Grind.{pow_more}
use Rattle.std.proofs.Math.Nat.{pow-le-pow_right}
use Rattle.zt_rows.proofs.RowLaws.{and_left, and_right, true≢false}
use Rattle.zt_text.specs.Numbers.{is_hex_digit, decimal_of, code_of, mask_of}

-- the value of a digit
pub digit_value-digit : (b : ℕ) → is_ascii_digit b ≡ true → digit_value b ≡ b - 48
digit_value-digit b d = grind (arith, nat_tests)

-- one digit more
pub value_more : (bs : List ℕ) (i n : ℕ) → i < length bs → n ≡ digits_value 10 (take i bs) → is_ascii_digit (get_or bs i 0) ≡ true → n * 10 + (get_or bs i 0 - 48) ≡ digits_value 10 (take (i + 1) bs)
value_more bs i n low e d =
    let here : digit_value (get_or bs i 0) ≡ get_or bs i 0 - 48 = digit_value-digit (get_or bs i 0) d in
    let step : digits_value 10 (take (i + 1) bs) ≡ digits_value 10 (take i bs) * 10 + digit_value (get_or bs i 0) = digits_value_more 10 bs i low in
    omega arith

-- every byte of a list of digits is one
pub list_all_each : (p : ℕ → Bool) (bs : List ℕ) (i : ℕ) → i < length bs → list_all p bs ≡ true → p (get_or bs i 0) ≡ true
list_all_each p bs i low all =
    elim (p (get_or bs i 0)) as (λ b. p (get_or bs i 0) ≡ b → b ≡ true) [
      | true ↦ λ _. refl
      | false ↦ λ e. let none : list_all p bs ≡ false = list_all_at p bs i 0 low e in cc
    ] refl

-- where one byte more does not go, the whole is no number of 64 bits
pub refused : (bs : List ℕ) (i n : ℕ) → i < length bs → n ≡ digits_value 10 (take i bs) → ¬ (IsTrue (is_ascii_digit (get_or bs i 0)) × (n * 10 + (get_or bs i 0 - 48) < 2 ^ 64)) → ¬ (IsTrue (list_all is_ascii_digit bs) × (digits_value 10 bs < 2 ^ 64))
refused bs i n low e out (all, fits) =
    let digit : is_ascii_digit (get_or bs i 0) ≡ true = list_all_each is_ascii_digit bs i low all in
    let more : n * 10 + (get_or bs i 0 - 48) ≡ digits_value 10 (take (i + 1) bs) = value_more bs i n low e digit in
    let front : digits_value 10 (take (i + 1) bs) ≤ digits_value 10 bs = digits_value-take-le 10 bs (i + 1) (lit≤ tt) in
    out (digit, omega arith)

-- one digit more is a digit more of the list
pub all_more : (p : ℕ → Bool) (bs : List ℕ) (i : ℕ) → i < length bs → list_all p (take i bs) ≡ true → p (get_or bs i 0) ≡ true → list_all p (take (i + 1) bs) ≡ true
all_more p bs i low all here = rw (list_all_more p bs i 0 low, all) here

-- a digit stands for nine at most
pub digit_small : (b : ℕ) → is_ascii_digit b ≡ true → b - 48 ≤ 9
digit_small b d = grind (arith, nat_tests)

-- one digit more
pub room_more : (i n d : ℕ) → n < 10 ^ i → d ≤ 9 → n * 10 + d < 10 ^ (i + 1)
room_more i n d small digit =
    let e : 10 ^ (i + 1) ≡ 10 ^ i * 10 = pow_more 10 i in
    omega arith

-- nineteen of them fit 64 bits
pub few_fit : (i n : ℕ) → i ≤ 19 → n < 10 ^ i → n < 2 ^ 64
few_fit i n low small = let most : 10 ^ i ≤ 10 ^ 19 = pow-le-pow_right (lit< tt) low in omega arith

pub next_fits : (i n d : ℕ) → i < 19 → n < 10 ^ i → d ≤ 9 → n * 10 + d < 2 ^ 64
next_fits i n d low small digit = few_fit (i + 1) (n * 10 + d) (omega arith) (room_more i n d small digit)

-- the value of a hexadecimal digit
pub hex_small : (b : ℕ) → is_hex_digit b ≡ true → digit_value b < 16
hex_small b h = grind (arith, nat_tests)

pub not_true : (b : Bool) → ¬ (IsTrue b) → b ≡ false
not_true true h = absurd (h refl)
not_true false h = refl

not_false : (b : Bool) → (b ≡ false → ⊥) → b ≡ true
not_false true h = refl
not_false false h = absurd (h refl)

first_false : (a b : Bool) → b ≡ true → (a && b) ≡ false → a ≡ false
first_false true b t f = absurd (true≢false b t f)
first_false false b t f = refl

-- what a mask reads as, where its length and its beginning are those of one
pub mask_is : (bs : List ℕ) (r : Option ℕ) → length bs ≡ 10 → starts_with nat_eq bs (codes "0x") ≡ true → SomeIff r (IsTrue (list_all is_hex_digit (drop 2 bs))) (digits_value 16 (drop 2 bs)) → r ≡ mask_of bs
unfolding mask_of
mask_is bs None len begins h =
    let ten : (length bs == 10) ≡ true = eq-eqb (length bs) 10 len in
    let bad : list_all is_hex_digit (drop 2 bs) ≡ false = not_true _ h in
    simp (ten, begins, bad)
mask_is bs (Some n) len begins (all, value) =
    let ten : (length bs == 10) ≡ true = eq-eqb (length bs) 10 len in
    let good : list_all is_hex_digit (drop 2 bs) ≡ true = all in
    simp (ten, begins, good) (ap Some value)

-- at the end of the list
pub whole : (bs : List ℕ) (i n : ℕ) → length bs ≤ i → list_all is_ascii_digit (take i bs) ≡ true → n ≡ digits_value 10 (take i bs) → n < 2 ^ 64 → (IsTrue (list_all is_ascii_digit bs) × (digits_value 10 bs < 2 ^ 64)) × (n ≡ digits_value 10 bs)
whole bs i n past all value fits =
    let e : take i bs ≡ bs = take_all i bs past in
    let digits : list_all is_ascii_digit bs ≡ true = rw e at all in
    let same : n ≡ digits_value 10 bs = rw e at value in
    ((digits, omega arith), same)

-- one hexadecimal digit more of the list
pub hex_value_more : (bs : List ℕ) (i n : ℕ) → i < length bs → n ≡ digits_value 16 (take i bs) → n * 16 + digit_value (get_or bs i 0) ≡ digits_value 16 (take (i + 1) bs)
hex_value_more bs i n low e =
    let step : digits_value 16 (take (i + 1) bs) ≡ digits_value 16 (take i bs) * 16 + digit_value (get_or bs i 0) = digits_value_more 16 bs i low in
    omega arith

-- what is known behind the first bytes of the number and of the sum of what stands for each byte, 128 where it is no digit
pub record IsHexSoFar (bs : List ℕ) (i n s : ℕ) : Type 0 where
  pub good : list_all is_hex_digit (take i bs) ≡ true → (n ≡ digits_value 16 (take i bs)) × (n < 16 ^ i) × (s ≤ 15 * i)
  pub bad : list_all is_hex_digit (take i bs) ≡ false → 128 ≤ s
  pub few : s ≤ 128 * i
  pub small : n + 9 ≤ 9 * 16 ^ i

-- one byte more
pub hex-so-far-more : (bs : List ℕ) (i n s v : ℕ) → i < length bs → v ≡ (if is_hex_digit (get_or bs i 0) then digit_value (get_or bs i 0) else 128) → IsHexSoFar bs i n s → IsHexSoFar bs (i + 1) (n * 16 + v) (s + v)
hex-so-far-more bs i n s v low stands before = by (is_hex_digit (get_or bs i 0)) refl
  where
    b : ℕ
    b = get_or bs i 0

    more : 16 ^ (i + 1) ≡ 16 ^ i * 16
    more = pow_more 16 i

    all : list_all is_hex_digit (take (i + 1) bs) ≡ (list_all is_hex_digit (take i bs) && is_hex_digit b)
    all = list_all_more is_hex_digit bs i 0 low

    digit : is_hex_digit b ≡ true → IsHexSoFar bs (i + 1) (n * 16 + v) (s + v)
    digit h =
        let value : v ≡ digit_value b = stands ∙ ap (λ t. if t then digit_value b else 128) h in
        let one : digit_value b < 16 = hex_small b h in
        record {
          good = λ e.
              let was = before.good (and_left (list_all is_hex_digit (take i bs)) (is_hex_digit b) (sym all ∙ e)) in
              let step : n * 16 + digit_value b ≡ digits_value 16 (take (i + 1) bs) = hex_value_more bs i n low was.0 in
              (ap (λ k. n * 16 + k) value ∙ step, omega (arith, was.1, more), omega (arith, was.2));
          bad = λ e.
              let was : 128 ≤ s = before.bad (first_false (list_all is_hex_digit (take i bs)) (is_hex_digit b) h (sym all ∙ e)) in
              omega arith;
          few = let was : s ≤ 128 * i = before.few in omega arith;
          small = let was : n + 9 ≤ 9 * 16 ^ i = before.small in omega (arith, more);
        }

    other : is_hex_digit b ≡ false → IsHexSoFar bs (i + 1) (n * 16 + v) (s + v)
    other h =
        let value : v ≡ 128 = stands ∙ ap (λ t. if t then digit_value b else 128) h in
        record {
          good = λ e. absurd (true≢false (is_hex_digit b) (and_right (list_all is_hex_digit (take i bs)) (is_hex_digit b) (sym all ∙ e)) h);
          bad = λ _. omega arith;
          few = let was : s ≤ 128 * i = before.few in omega arith;
          small = let was : n + 9 ≤ 9 * 16 ^ i = before.small in omega (arith, more);
        }

    by : (h : Bool) → is_hex_digit b ≡ h → IsHexSoFar bs (i + 1) (n * 16 + v) (s + v)
    by true e = digit e
    by false e = other e

-- the number and the sum of few bytes are within their sizes
pub hex-so-far-fits : (bs : List ℕ) (i n s : ℕ) → i ≤ 8 → IsHexSoFar bs i n s → (n ≤ 9 * 16 ^ 8) × (s ≤ 1024)
hex-so-far-fits bs i n s low before =
    let most : 16 ^ i ≤ 16 ^ 8 = pow-le-pow_right (lit< tt) low in
    let few : s ≤ 128 * i = before.few in
    let small : n + 9 ≤ 9 * 16 ^ i = before.small in
    (omega arith, omega arith)

-- at the end of few bytes the sum tells whether all are digits
pub hex-so-far-all : (bs : List ℕ) (i n s : ℕ) → length bs ≤ i → i ≤ 8 → IsHexSoFar bs i n s → s < 128 → IsTrue (list_all is_hex_digit bs) × (n ≡ digits_value 16 bs) × (n < 2 ^ 32)
hex-so-far-all bs i n s past low before less =
    let whole : take i bs ≡ bs = take_all i bs past in
    let good : list_all is_hex_digit (take i bs) ≡ true = not_false (list_all is_hex_digit (take i bs)) (λ e. let more : 128 ≤ s = before.bad e in absurd (omega arith)) in
    let was = before.good good in
    let most : 16 ^ i ≤ 16 ^ 8 = pow-le-pow_right (lit< tt) low in
    (sym (ap (list_all is_hex_digit) whole) ∙ good, was.0 ∙ ap (digits_value 16) whole, omega (arith, was.1))

pub hex-so-far-none : (bs : List ℕ) (i n s : ℕ) → length bs ≤ i → i ≤ 8 → IsHexSoFar bs i n s → ¬ (s < 128) → ¬ (IsTrue (list_all is_hex_digit bs))
hex-so-far-none bs i n s past low before more all =
    let whole : take i bs ≡ bs = take_all i bs past in
    let was = before.good (ap (list_all is_hex_digit) whole ∙ all) in
    let few : s ≤ 15 * i = was.2 in
    more (omega arith)

-- the digits of a mask as a slice has them
pub mask_digits : (bs : List ℕ) → length bs ≡ 10 → take (length bs - 2) (drop 2 bs) ≡ drop 2 bs
mask_digits bs ten = take_all (length bs - 2) (drop 2 bs) (omega (arith, length-drop 2 bs))

-- a code without a sign
pub unsigned_code : (bs : List ℕ) (r : Option ℤ) → r ≡ option_map pos (decimal_of (2 ^ 63 - 1) bs) → 1 ≤ length bs → (get_or bs 0 0 ≡ 45 → ⊥) → r ≡ code_of bs
unfolding code_of
unsigned_code [] r read some other = absurd (omega arith)
unsigned_code (first ∷ digits) r read some other =
    let no_sign : (first == 45) ≡ false = grind (arith, nat_tests) in
    rw no_sign read
