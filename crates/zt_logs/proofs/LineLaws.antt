-- The first line of some bytes, by where the first line feed stands.
use Rattle.std.proofs.Common.{◌≡◌, ℕ, ◌+◌, ◌-◌, ◌<◌, ◌≤◌, suc, Bool, true, false, List, [], ◌∷◌, length, Option, Some, None, refl, sym, ap, arith}
use Rattle.std.specs.Prelude.{◌==◌, take, drop, if◌then◌else◌, nat_lt, slice_index}
use Rattle.std.specs.List.{onto_first, position, position_or_len}
use Rattle.std.proofs.lemmas.Bool.{ltb-true, ltb-false}
use Rattle.std.proofs.lemmas.Grind.{common_steps}
use Rattle.std.proofs.lemmas.List.{take_all}
use Rattle.std.proofs.lemmas.List.Sums.{position_or_len_is}
use Rattle.memchr.specs.Find.{IsFirstByte, is_byte}
use Rattle.zt_logs.specs.Lines.{lines_of}

abbrev is_feed : ℕ → Bool
is_feed byte = byte == 10

-- one byte more ahead of a line feed
shifted : (x : ℕ) (xs : List ℕ) (m k : ℕ) → k ≡ suc m → lines_of xs ≡ take m xs ∷ lines_of (drop (m + 1) xs)
    → onto_first x (lines_of xs) ≡ take k (x ∷ xs) ∷ lines_of (drop (k + 1) (x ∷ xs))
shifted x xs m k is e =
    let next : k + 1 ≡ suc (m + 1) = omega (arith, is) in
    rw next (rw is (ap (onto_first x) e))

-- the bytes ahead of the first line feed are the first line
at_feed : (bytes : List ℕ) → position_or_len is_feed bytes < length bytes
    → lines_of bytes ≡ take (position_or_len is_feed bytes) bytes ∷ lines_of (drop (position_or_len is_feed bytes + 1) bytes)
at_feed [] low = absurd (omega (arith, low))
at_feed (x ∷ xs) low =
    elim (x == 10) as (λ b. (x == 10) ≡ b → lines_of (x ∷ xs) ≡ take (position_or_len is_feed (x ∷ xs)) (x ∷ xs) ∷ lines_of (drop (position_or_len is_feed (x ∷ xs) + 1) (x ∷ xs))) [
      | true ↦ λ e. rw e refl
      | false ↦ λ e. rw e (shifted x xs (position_or_len is_feed xs) (1 + position_or_len is_feed xs) (omega arith) (at_feed xs (omega (arith, rw e at low))))
    ] refl

within : (bytes : List ℕ) → position_or_len is_feed bytes ≤ length bytes
within [] = omega arith
within (x ∷ xs) = elim (x == 10) as (λ b. (x == 10) ≡ b → position_or_len is_feed (x ∷ xs) ≤ suc (length xs)) [
  | true ↦ λ e. rw e (omega arith)
  | false ↦ λ e. rw e (omega (arith, within xs))
] refl

-- bytes without a line feed are one line
without_feed : (bytes : List ℕ) → position_or_len is_feed bytes ≡ length bytes → 0 < length bytes → lines_of bytes ≡ bytes ∷ []
without_feed [] all some = absurd (omega (arith, some))
without_feed (x ∷ []) all some = elim (x == 10) as (λ b. (x == 10) ≡ b → lines_of (x ∷ []) ≡ (x ∷ []) ∷ []) [
  | true ↦ λ e. absurd (omega (arith, rw e at all))
  | false ↦ λ e. rw e refl
] refl
without_feed (x ∷ y ∷ xs) all some =
    elim (x == 10) as (λ b. (x == 10) ≡ b → lines_of (x ∷ y ∷ xs) ≡ (x ∷ y ∷ xs) ∷ []) [
      | true ↦ λ e. absurd (omega (arith, rw e at all))
      | false ↦ λ e. rw e (ap (onto_first x) (without_feed (y ∷ xs) (omega (arith, rw e at all)) (omega arith)))
    ] refl

-- the first line, where there is a line feed
pub line_before : (bytes : List ℕ) (place : ℕ) → position (λ byte. byte == 10) bytes ≡ Some place
    → lines_of bytes ≡ take place bytes ∷ lines_of (take (length bytes - (place + 1)) (drop (place + 1) bytes))
line_before bytes place is =
    elim (nat_lt (position_or_len is_feed bytes) (length bytes)) as (λ b. nat_lt (position_or_len is_feed bytes) (length bytes) ≡ b → lines_of bytes ≡ take place bytes ∷ lines_of (take (length bytes - (place + 1)) (drop (place + 1) bytes))) [
      | true ↦ λ e.
          let same : position_or_len is_feed bytes ≡ place = cc (rw e at is) in
          let low = ltb-true (position_or_len is_feed bytes) (length bytes) e in
          let rest : take (length bytes - (place + 1)) (drop (place + 1) bytes) ≡ drop (place + 1) bytes =
          take_all (length bytes - (place + 1)) (drop (place + 1) bytes) (grind (arith, common_steps)) in
          rw rest (rw same at (at_feed bytes low))
      | false ↦ λ e. cc (rw e at is)
    ] refl

-- and where there is none
pub line_alone : (bytes : List ℕ) → position (λ byte. byte == 10) bytes ≡ None → 0 < length bytes → lines_of bytes ≡ bytes ∷ []
line_alone bytes is some =
    elim (nat_lt (position_or_len is_feed bytes) (length bytes)) as (λ b. nat_lt (position_or_len is_feed bytes) (length bytes) ≡ b → lines_of bytes ≡ bytes ∷ []) [
      | true ↦ λ e. cc (rw e at is)
      | false ↦ λ e. without_feed bytes (omega (arith, ltb-false (position_or_len is_feed bytes) (length bytes) e, within bytes)) some
    ] refl

-- there are no more lines than bytes
onto_few : (x : ℕ) (lines : List (List ℕ)) → length (onto_first x lines) ≤ suc (length lines)
onto_few x [] = omega arith
onto_few x (line ∷ lines) = omega arith

pub few_lines : (bytes : List ℕ) → length (lines_of bytes) ≤ length bytes
few_lines [] = omega arith
few_lines (x ∷ xs) = elim (x == 10) as (λ b. length (if b then [] ∷ lines_of xs else onto_first x (lines_of xs)) ≤ suc (length xs)) [
  | true ↦ omega (arith, few_lines xs)
  | false ↦ omega (arith, few_lines xs, onto_few x (lines_of xs))
]

-- the first place of a line feed, as it is searched for
fails : (b : Bool) → ¬ (b ≡ true) → b ≡ false
fails true other = absurd (other refl)
fails false other = refl

pub first_feed : (bytes : List ℕ) (r : Option ℕ) → IsFirstByte (is_byte 10) bytes r → r ≡ position (λ byte. byte == 10) bytes
first_feed bytes None none =
    let whole : position_or_len is_feed bytes ≡ length bytes =
    position_or_len_is is_feed bytes (length bytes) 0 (omega arith) (λ k low. fails (is_feed (slice_index bytes k)) (none k (omega arith) low)) (λ low. absurd (omega (arith, low))) in
    elim (nat_lt (position_or_len is_feed bytes) (length bytes)) as (λ b. nat_lt (position_or_len is_feed bytes) (length bytes) ≡ b → None ≡ position is_feed bytes) [
      | true ↦ λ e. absurd (omega (arith, whole, ltb-true (position_or_len is_feed bytes) (length bytes) e))
      | false ↦ λ e. rw e refl
    ] refl
first_feed bytes (Some place) (first, here) =
    let at : position_or_len is_feed bytes ≡ place =
    position_or_len_is is_feed bytes place 0 (omega (arith, first.high)) (λ k low. fails (is_feed (slice_index bytes k)) (first.before k (omega arith) low)) (λ low. here) in
    elim (nat_lt (position_or_len is_feed bytes) (length bytes)) as (λ b. nat_lt (position_or_len is_feed bytes) (length bytes) ≡ b → Some place ≡ position is_feed bytes) [
      | true ↦ λ e. rw e (ap Some (sym at))
      | false ↦ λ e. absurd (omega (arith, at, first.high, ltb-false (position_or_len is_feed bytes) (length bytes) e))
    ] refl
