-- A walk over keys that differ in their last number alone: where it goes on. This project's own form.
-- Used by proofs only.
use Rattle.std.specs.Prelude.{◌≡◌, ℕ, ◌<◌, Option, None}
use Rattle.std.specs.Option.{MatchOption}
use Rattle.zt_rows.specs.declared.keys.RowKey.{RowKey}
use Rattle.zt_rows.specs.State.{State, row}

-- a greater number with no row under those in between, or none where there is no row under any greater number
abbrev pub IsNextRow : State → (ℕ → RowKey) → ℕ → Option ℕ → Type 0
IsNextRow S key_of low found =
    MatchOption found ((n : ℕ) → low < n → row S (key_of n) ≡ None)
    (λ n. (low < n) × ((m : ℕ) → low < m → m < n → row S (key_of m) ≡ None))
