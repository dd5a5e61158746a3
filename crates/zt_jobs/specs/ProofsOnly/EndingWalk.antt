-- What a walk over the tree of jobs knows and what it has still to look below. This project's own form.
-- Used by proofs only.
use Rattle.std.specs.Prelude.{◌≡◌, ◌⊎◌, ℕ, Bool, true, List}
use Rattle.zt_rows.specs.Tests.{among}

-- what is known later was known or waits; what waited still waits; and what waits waited before or is known
pub record IsNoted (known : ℕ → Bool) (waiting : List ℕ) (more : ℕ → Bool) (later : List ℕ) : Type 0 where
  pub new : (x : ℕ) → more x ≡ true → (known x ≡ true) ⊎ (among later x ≡ true)
  pub still : (x : ℕ) → among waiting x ≡ true → among later x ≡ true
  pub within : (x : ℕ) → among later x ≡ true → (among waiting x ≡ true) ⊎ (more x ≡ true)
