-- The parts of a text, by where its first separator stands.
use Rattle.std.proofs.Common.{◌≡◌, ℕ, ◌+◌, ◌<◌, ◌≤◌, Bool, true, false, List, [], ◌∷◌, length, refl, arith}
use Rattle.std.specs.Prelude.{◌==◌}
use Rattle.std.specs.List.{slice_split, position_or_len, before_first, after_first}
use Rattle.std.proofs.lemmas.List.Splits.{slice_split_first, slice_split-cons_no}
use Rattle.zt_json.specs.Parts.{parts_of, IsFirst}

-- a text without a separator is one part
uncut : (p : ℕ → Bool) (xs : List ℕ) → length xs ≤ position_or_len p xs → slice_split p xs ≡ xs ∷ []
uncut p [] h = refl
uncut p (x ∷ xs) h =
    elim (p x) as (λ b. p x ≡ b → slice_split p (x ∷ xs) ≡ (x ∷ xs) ∷ []) [
      | true ↦ λ e. let none : position_or_len p (x ∷ xs) ≡ 0 = rw e refl in absurd (omega arith)
      | false ↦ λ e.
          let more : position_or_len p (x ∷ xs) ≡ 1 + position_or_len p xs = rw e refl in
          let rest : slice_split p xs ≡ xs ∷ [] = uncut p xs (omega arith) in
          rw (slice_split-cons_no p x xs e, rest) refl
    ] refl

pub cut_none : (c : ℕ) (xs : List ℕ) → position_or_len (λ b. b == c) xs ≡ length xs → parts_of c xs ≡ xs ∷ []
cut_none c xs h = uncut (λ b. b == c) xs (omega arith)

pub cut_some : (c : ℕ) (xs part left : List ℕ) → part ≡ before_first (λ b. b == c) xs → left ≡ after_first (λ b. b == c) xs → position_or_len (λ b. b == c) xs < length xs → parts_of c xs ≡ part ∷ parts_of c left
cut_some c xs part left front back within = rw (front, back) (slice_split_first (λ b. b == c) xs 0 within)

pub first_of : (part : List ℕ) (parts whole : List (List ℕ)) → whole ≡ part ∷ parts → IsFirst part whole
first_of part parts whole h = rw h refl
