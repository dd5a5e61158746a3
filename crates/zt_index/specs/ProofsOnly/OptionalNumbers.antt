-- A number or none, as it is written in four bytes: none as the greatest number. Used by proofs only.
use Rattle.std.specs.Prelude.{◌≡◌, ◌==◌, ℕ, Bool, true, false, cond, Option, None, Some, refl}
use Rattle.std.proofs.Common.{sym}
use Rattle.std.proofs.lemmas.Bool.{eqb-true}

-- what stands for none
abbrev pub none_code : ℕ
none_code = 4_294_967_295

-- what a number stands for
abbrev pub read_code : ℕ → Option ℕ
read_code n = cond (n == none_code) None (Some n)

-- the number that stands for it
abbrev pub code_of : Option ℕ → ℕ
code_of None = none_code
code_of (Some n) = n

pub code-read : (n : ℕ) → code_of (read_code n) ≡ n
code-read n = by (n == none_code) refl
  where
    by : (t : Bool) → (n == none_code) ≡ t → code_of (cond t None (Some n)) ≡ n
    by true e = sym (eqb-true n none_code e)
    by false e = refl
