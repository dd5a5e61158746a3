-- The field in front of some bytes, which is read while its end is sought.
use Rattle.std.proofs.Common.{◌≡◌, ℕ, zero, suc, ◌<◌, ◌≤◌, Bool, true, false, List, [], ◌∷◌, length, get_or, take, drop, Option, Some, None, refl, arith}
use Rattle.std.specs.Prelude.{◌==◌, nat_lt, nat_eq, ◌&&◌, codes}
use Rattle.std.specs.Char.{is_ascii_digit}
use Rattle.std.specs.List.{list_all, starts_with}
use Rattle.std.specs.Str.Parse.{digits_value}
use Rattle.std.proofs.lemmas.Bool.{eqb-true, and_parts}
use Rattle.std.proofs.lemmas.Bool.Decides.{nat_tests}
use Rattle.std.proofs.lemmas.Grind.{common_steps}
use Rattle.std.proofs.lemmas.List.{take_all, get_or-take}
use denote.Ref.{Bor}
use Rattle.zt_text.specs.Numbers.{decimal_of, mask_of, is_mask, has_leading_zero, is_hex_digit}
use Rattle.zt_text.specs.Fields.{parts_of}
use Rattle.zt_text.specs.ProofsOnly.Cut.{IsCut, IsClear, IsInFront}
use Rattle.zt_text.proofs.CutLemmas.{cut_none}
use Rattle.zt_text.proofs.Places.{no_place}
use Rattle.zt_text.proofs.NumberLemmas.{list_all_each}

-- bytes without a separator are cut by nothing
pub uncut : (c : ℕ) (xs : List ℕ) (end : ℕ) → IsClear c xs 0 end → end ≡ length xs → (parts_of c xs ≡ take end xs ∷ []) × (length (take end xs) ≡ length xs)
uncut c xs end clear is =
    let whole : take end xs ≡ xs = take_all end xs (omega arith) in
    let to : IsClear c xs 0 (length xs) = λ k low below. clear k low (omega arith) in
    rw whole (cut_none c xs (no_place c xs to), refl)

-- a byte that passes a test is none that does not
passed : (c : ℕ) (p : ℕ → Bool) (x : ℕ) → p c ≡ false → p x ≡ true → (x == c) ≡ false
passed c p x other here =
    elim (x == c) as (λ b. (x == c) ≡ b → b ≡ false) [
      | true ↦ λ e. let is : x ≡ c = eqb-true x c e in let there : p c ≡ true = rw is at here in cc
      | false ↦ λ e. refl
    ] refl

-- among bytes that pass a test there is none that does not
pub clear_by : (c : ℕ) (p : ℕ → Bool) (xs : List ℕ) (end : ℕ) → p c ≡ false → end ≤ length xs → list_all p (take end xs) ≡ true → IsClear c xs 0 end
clear_by c p xs end other inside all k low below =
    let within : k < length (take end xs) = grind (arith, common_steps) in
    let here : p (get_or (take end xs) k 0) ≡ true = list_all_each p (take end xs) k within all in
    let same : get_or (take end xs) k 0 ≡ get_or xs k 0 = get_or-take end xs k 0 below in
    passed c p (get_or xs k 0) other (rw same at here)

-- digits without leading zeros are a number, up to the most
pub decimal_in_front : (bytes first : List ℕ) (left : Option (Bor (List ℕ))) (digits number most : ℕ) → IsCut 32 bytes first left → first ≡ take digits bytes
    → list_all is_ascii_digit (take digits bytes) ≡ true → number ≡ digits_value 10 (take digits bytes)
    → 0 < length first → has_leading_zero first ≡ false → number ≤ most → IsInFront (decimal_of most) bytes (number, left)
unfolding decimal_of
decimal_in_front bytes first left digits number most cut is all value some plain low =
    let digit : list_all is_ascii_digit first ≡ true = rw is all in
    let same : digits_value 10 first ≡ number = rw is (rw value refl) in
    let long : nat_lt 0 (length first) ≡ true = grind (arith, nat_tests) in
    (first, cut, simp (long, plain, digit, same) (grind (arith, nat_tests)))

-- `0`, `x` and digits are no spaces
other_of_mask : (bs : List ℕ) (k : ℕ) → starts_with nat_eq bs (codes "0x") ≡ true → list_all is_hex_digit (drop 2 bs) ≡ true → k < length bs → (get_or bs k 0 == 32) ≡ false
other_of_mask [] k begins digits low = absurd (omega arith)
other_of_mask (a ∷ []) k begins digits low = absurd (let parts = and_parts (nat_eq 48 a) false begins in cc parts.1)
other_of_mask (a ∷ b ∷ rest) zero begins digits low =
    let parts = and_parts (nat_eq 48 a) (nat_eq 120 b && true) begins in
    passed 32 (nat_eq 48) a refl parts.0
other_of_mask (a ∷ b ∷ rest) (suc zero) begins digits low =
    let parts = and_parts (nat_eq 48 a) (nat_eq 120 b && true) begins in
    let second = and_parts (nat_eq 120 b) true parts.1 in
    passed 32 (nat_eq 120) b refl second.0
other_of_mask (a ∷ b ∷ rest) (suc (suc k)) begins digits low =
    passed 32 is_hex_digit (get_or rest k 0) refl (list_all_each is_hex_digit rest k (omega arith) digits)

is_read_mask : (field : List ℕ) (bits : ℕ) → Some bits ≡ mask_of field → is_mask field ≡ true
unfolding mask_of
is_read_mask field bits reads =
    elim (is_mask field) as (λ b. is_mask field ≡ b → b ≡ true) [
      | true ↦ λ e. refl
      | false ↦ λ e. let none : mask_of field ≡ None = rw e refl in cc
    ] refl

-- among the bytes of a mask there is no space
pub mask_clear : (bytes : List ℕ) (bits : ℕ) → Some bits ≡ mask_of (take 10 bytes) → IsClear 32 bytes 0 10
mask_clear bytes bits reads k from below =
    let all = and_parts (length (take 10 bytes) == 10 && starts_with nat_eq (take 10 bytes) (codes "0x")) (list_all is_hex_digit (drop 2 (take 10 bytes))) (is_read_mask (take 10 bytes) bits reads) in
    let shape = and_parts (length (take 10 bytes) == 10) (starts_with nat_eq (take 10 bytes) (codes "0x")) all.0 in
    let long : length (take 10 bytes) ≡ 10 = eqb-true (length (take 10 bytes)) 10 shape.0 in
    let same : get_or (take 10 bytes) k 0 ≡ get_or bytes k 0 = get_or-take 10 bytes k 0 below in
    rw same at (other_of_mask (take 10 bytes) k shape.1 all.1 (omega arith))
