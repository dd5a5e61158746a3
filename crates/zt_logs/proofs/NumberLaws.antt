-- One digit more of a number.
use Rattle.std.proofs.Common.{◌≡◌, ℕ, ◌+◌, ◌*◌, ◌<◌, List, length, sym, ◌∙◌, ap}
use Rattle.std.specs.Prelude.{take, slice_index}
use Rattle.std.specs.Str.Parse.{AllDigits, digits_value}
use Rattle.std.specs.Char.{digit_value}
use Rattle.std.proofs.lemmas.Int.Digits.{digits_more, digits_value_more}

pub digits_next : (base : ℕ) (bs : List ℕ) (i number more : ℕ) → i < length bs → AllDigits base (take i bs) × (number ≡ digits_value base (take i bs))
    → (digit_value (slice_index bs i) < base) × (more ≡ number * base + digit_value (slice_index bs i))
    → AllDigits base (take (i + 1) bs) × (more ≡ digits_value base (take (i + 1) bs))
digits_next base bs i number more low so_far here = (
  digits_more base bs i low so_far.0 here.0,
  here.1 ∙ ap (λ n. n * base + digit_value (slice_index bs i)) so_far.1 ∙ sym (digits_value_more base bs i low),
)
