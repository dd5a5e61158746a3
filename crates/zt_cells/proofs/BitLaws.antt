-- One bit of a word, and the lowest that is set.
use Rattle.std.proofs.Common.{◌≡◌, ◌≤◌, ◌<◌, ℕ, ◌+◌, ◌-◌, ◌/◌, ◌%◌, ◌*◌, ◌^◌, bit_and, bit_or, w64, sym, ap, ◌∙◌, arith, ⊎_elim}
use Rattle.std.specs.Int.{bit_at, bit_not}
use Rattle.std.proofs.lemmas.Bool.{cases_lt}
use Rattle.std.proofs.lemmas.Nat.{shr-shr}
use Rattle.std.proofs.lemmas.Nat.Bits.{bit_at-zero, bit_at_above, bit_at_set_same, bit_at_set_other, bit_at_clear_same, bit_at_clear_other}
use Rattle.zt_cells.specs.ProofsOnly.MarkedNumbers.{IsWordWith, IsLowestFrom}

pub word-with : (w i : ℕ) → i < 64 → IsWordWith w (bit_or w (1 * 2 ^ i % 2 ^ 64)) i 1
word-with w i h =
    record { here = bit_at_set_same w64 w i h; others = λ j l d. bit_at_set_other w64 w i h j d }

pub word-without : (w i : ℕ) → i < 64 → IsWordWith w (bit_and w (bit_not w64 (1 * 2 ^ i % 2 ^ 64))) i 0
word-without w i h =
    record { here = bit_at_clear_same w64 w i h; others = λ j l d. bit_at_clear_other w64 w i h j l d }

module _ (w low : ℕ) where
  shifted : (i : ℕ) → low ≤ i → bit_at w i ≡ bit_at (w / 2 ^ low) (i - low)
  shifted i h =
      let e : i ≡ low + (i - low) = omega arith in
      ap (bit_at w) e ∙ ap (λ x. x % 2) (sym (shr-shr w low (i - low)))

  -- where all bits that were not shifted out are 0, there is none from there on
  pub none-from : w / 2 ^ low ≡ 0 → (i : ℕ) → low ≤ i → bit_at w i ≡ 0
  none-from z i h = shifted i h ∙ ap (λ x. bit_at x (i - low)) z ∙ bit_at-zero (i - low)

  below : (n i : ℕ) → ((j : ℕ) → j < n → bit_at (w / 2 ^ low) j ≡ 0) → low ≤ i → i < low + n → bit_at w i ≡ 0
  below n i first h l = shifted i h ∙ first (i - low) (omega arith)

  -- the lowest of those that were not shifted out
  pub lowest-from : (n : ℕ) → w < 2 ^ 64 → bit_at (w / 2 ^ low) n ≡ 1 → ((j : ℕ) → j < n → bit_at (w / 2 ^ low) j ≡ 0) → IsLowestFrom w low (low + n)
  lowest-from n fits set first =
      let e : low + n - low ≡ n = omega arith in
      let there : bit_at w (low + n) ≡ 1 = shifted (low + n) (omega arith) ∙ ap (bit_at (w / 2 ^ low)) e ∙ set in
      record {
        from_there = omega arith;
        within = ⊎_elim (λ h. h) (λ h. let none : bit_at w (low + n) ≡ 0 = bit_at_above w 64 (low + n) fits h in absurd (omega (arith, sym there ∙ none))) (cases_lt (low + n) 64);
        set = there;
        first = λ j h l. below n j first h l;
      }
