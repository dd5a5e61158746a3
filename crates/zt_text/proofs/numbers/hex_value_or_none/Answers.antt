-- The table is held against the definition at each of the 256 bytes, by computing.
use Rattle.std.proofs.Common.{◌≡◌, ℕ, zero, suc, ◌<◌, Bool, true, ◌&&◌, nat_eq, get_or, refl, arith, inl, inr}
use Rattle.std.specs.Prelude.{if◌then◌else◌}
use Rattle.std.specs.Char.{digit_value}
use Rattle.std.proofs.lemmas.Bool.{cases_eq, eqb-true}
use Rattle.zt_text.specs.declared.numbers.TheConstants.{HEX_VALUES}
use Rattle.zt_text.specs.Numbers.{is_hex_digit}
use Rattle.zt_rows.proofs.RowLaws.{and_left, and_right}
use Rattle.zt_text.proofs.numbers.hex_value_or_none.Goals as goal

-- two functions have the same values below n
same_below : (ℕ → ℕ) → (ℕ → ℕ) → ℕ → Bool
same_below f g zero = true
same_below f g (suc n) = nat_eq (f n) (g n) && same_below f g n

same_at : (f g : ℕ → ℕ) (n : ℕ) → same_below f g n ≡ true → (b : ℕ) → b < n → f b ≡ g b
unfolding same_below
same_at f g zero h b less = absurd (omega arith)
same_at f g (suc n) h b less =
    elim (cases_eq b n) [
      | inl same ↦ rw same (eqb-true (f n) (g n) (and_left (nat_eq (f n) (g n)) (same_below f g n) h))
      | inr other ↦ same_at f g n (and_right (nat_eq (f n) (g n)) (same_below f g n) h) b (omega arith)
    ]

pub returns : goal.returns
unfolding same_below
returns c = same_at (λ b. get_or HEX_VALUES b 0) (λ b. if is_hex_digit b then digit_value b else 128) 256 refl c.args.byte (omega arith)
