-- The place of the first separator, by what stands before it and there.
use Rattle.std.proofs.Common.{◌≡◌, ℕ, ◌+◌, ◌<◌, ◌≤◌, Bool, true, not, List, map, length, slice_index, Some, None, arith}
use Rattle.std.specs.Prelude.{◌==◌}
use Rattle.std.specs.List.{position, position_or_len}
use Rattle.std.proofs.lemmas.List.Sums.{position_or_len_is}
use Rattle.std.proofs.lemmas.Bool.Decides.{nat_tests}
use Rattle.std.proofs.lemmas.Grind.{common_steps}
use Rattle.std.proofs.lemmas.Simd.{trailing_mask_l, run_in_chunk_le, run_in_chunk_fails, run_in_chunk_stops, none_from_empty_mask}
use Rattle.std.specs.List.{prefix_len}
use lib.Lanes.{mask_l, chunk}
use lib.Count.{count_trailing_zeros}
use lib.Dec.{eqb}
use Rattle.zt_text.specs.ProofsOnly.Cut.{IsClear}

pub no_place : (c : ℕ) (xs : List ℕ) → IsClear c xs 0 (length xs) → None ≡ position (λ byte. byte == c) xs
no_place c xs clear =
    let e : position_or_len (λ byte. byte == c) xs ≡ length xs =
    position_or_len_is (λ byte. byte == c) xs (length xs) 0 (omega arith) (λ k below. clear k (omega arith) below) (λ low. absurd (omega arith)) in
    rw e (grind (arith, nat_tests))

pub first_place : (c : ℕ) (xs : List ℕ) (i : ℕ) → i < length xs → IsClear c xs 0 i → (slice_index xs i == c) ≡ true → Some i ≡ position (λ byte. byte == c) xs
first_place c xs i high clear here =
    let e : position_or_len (λ byte. byte == c) xs ≡ i =
    position_or_len_is (λ byte. byte == c) xs i 0 (omega arith) (λ k below. clear k (omega arith) below) (λ low. here) in
    rw e (grind (arith, nat_tests))

-- the lowest mark of several bytes is at the first separator
pub marked : (c : ℕ) (xs : List ℕ) (n i m : ℕ) → n ≤ 64 → i + n ≤ length xs → m ≡ mask_l (map (λ x. eqb x c) (chunk i n xs)) → 0 < m
    → (count_trailing_zeros 64 m ≤ n) × (IsClear c xs i (i + count_trailing_zeros 64 m)) × (count_trailing_zeros 64 m < n → (slice_index xs (i + count_trailing_zeros 64 m) == c) ≡ true)
marked c xs n i m few room is some =
    let p : ℕ → Bool = λ x. eqb x c in
    let long : length (chunk i n xs) ≤ 64 = grind (arith, common_steps) in
    let found : 0 < mask_l (map p (chunk i n xs)) = rw is at some in
    let counted : count_trailing_zeros 64 m ≡ prefix_len (λ x. not (p x)) (chunk i n xs) = rw is (trailing_mask_l p 64 (chunk i n xs) long found) in
    (run_in_chunk_le p xs i n (count_trailing_zeros 64 m) 0 room counted, run_in_chunk_fails p xs i n (count_trailing_zeros 64 m) 0 room counted, run_in_chunk_stops p xs i n (count_trailing_zeros 64 m) 0 room counted)

-- and where there is no mark there is no separator
pub unmarked : (c : ℕ) (xs : List ℕ) (n i m : ℕ) → i + n ≤ length xs → m ≡ mask_l (map (λ x. eqb x c) (chunk i n xs)) → m ≡ 0 → IsClear c xs i (i + n)
unmarked c xs n i m room is none = none_from_empty_mask (λ x. eqb x c) xs i n 0 room (rw (← is) none)
