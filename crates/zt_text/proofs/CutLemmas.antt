-- The first part of some bytes, by where the first separator stands.
use Rattle.std.proofs.Common.{◌≡◌, ℕ, ◌+◌, ◌-◌, ◌<◌, ◌≤◌, Bool, true, false, List, [], ◌∷◌, length, take, drop, length-drop, refl, arith, Some, None}
use Rattle.std.specs.Prelude.{◌==◌, nat_lt}
use Rattle.std.specs.List.{slice_split, position, position_or_len}
use Rattle.std.proofs.lemmas.List.{take_all}
use Rattle.std.proofs.lemmas.List.Splits.{slice_split_first, slice_split-cons_no}
use Rattle.std.proofs.lemmas.Bool.Decides.{nat_tests}
use Rattle.std.proofs.lemmas.Grind.{common_steps}
use Rattle.zt_text.specs.Fields.{parts_of}

-- bytes without a separator are one part
uncut : (p : ℕ → Bool) (xs : List ℕ) → length xs ≤ position_or_len p xs → slice_split p xs ≡ xs ∷ []
uncut p [] h = refl
uncut p (x ∷ xs) h =
    elim (p x) as (λ b. p x ≡ b → slice_split p (x ∷ xs) ≡ (x ∷ xs) ∷ []) [
      | true ↦ λ e. let none : position_or_len p (x ∷ xs) ≡ 0 = rw e refl in absurd (omega arith)
      | false ↦ λ e.
          let more : position_or_len p (x ∷ xs) ≡ 1 + position_or_len p xs = rw e refl in
          let rest : slice_split p xs ≡ xs ∷ [] = uncut p xs (omega arith) in
          rw (slice_split-cons_no p x xs e, rest) refl
    ] refl

pub cut_none : (c : ℕ) (xs : List ℕ) → None ≡ position (λ byte. byte == c) xs → parts_of c xs ≡ xs ∷ []
cut_none c xs h = uncut (λ byte. byte == c) xs (elim (nat_lt (position_or_len (λ byte. byte == c) xs) (length xs)) as (λ b. nat_lt (position_or_len (λ byte. byte == c) xs) (length xs) ≡ b → length xs ≤ position_or_len (λ byte. byte == c) xs) [
  | true ↦ λ e. let some : position (λ byte. byte == c) xs ≡ Some (position_or_len (λ byte. byte == c) xs) = rw e refl in cc
  | false ↦ λ e. grind (arith, nat_tests)
] refl)

pub cut_some : (c : ℕ) (xs : List ℕ) (i : ℕ) → i < length xs → Some i ≡ position (λ byte. byte == c) xs → parts_of c xs ≡ take i xs ∷ parts_of c (drop (i + 1) xs)
cut_some c xs i low h =
    elim (nat_lt (position_or_len (λ byte. byte == c) xs) (length xs)) as (λ b. nat_lt (position_or_len (λ byte. byte == c) xs) (length xs) ≡ b → parts_of c xs ≡ take i xs ∷ parts_of c (drop (i + 1) xs)) [
      | true ↦ λ e.
          let some : position (λ byte. byte == c) xs ≡ Some (position_or_len (λ byte. byte == c) xs) = rw e refl in
          let same : i ≡ position_or_len (λ byte. byte == c) xs = cc in
          rw same (slice_split_first (λ byte. byte == c) xs 0 (grind (arith, nat_tests)))
      | false ↦ λ e. let none : position (λ byte. byte == c) xs ≡ None = rw e refl in cc
    ] refl

-- if the first separator stands at i, the bytes ahead of it are the first part, and the slice from i + 1 to the end has the other
-- parts; both slices and the separator are together as long as the bytes
pub cut_at : (c : ℕ) (xs : List ℕ) (i : ℕ) → i < length xs → Some i ≡ position (λ byte. byte == c) xs → (parts_of c xs ≡ take i xs ∷ parts_of c (take (length xs - (i + 1)) (drop (i + 1) xs))) × (length (take i xs) + 1 + length (take (length xs - (i + 1)) (drop (i + 1) xs)) ≡ length xs)
cut_at c xs i low h =
    let dropped : length (drop (i + 1) xs) ≡ length xs - (i + 1) = length-drop (i + 1) xs in
    let taken : length (take i xs) ≡ i = grind (arith, common_steps) in
    let e : take (length xs - (i + 1)) (drop (i + 1) xs) ≡ drop (i + 1) xs = take_all (length xs - (i + 1)) (drop (i + 1) xs) (omega arith) in
    rw e (cut_some c xs i low h, omega arith)
