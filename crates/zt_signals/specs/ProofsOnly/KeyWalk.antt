-- A walk along the keys of one column, as those of waits: what comes next, and whether it passes. This project's
-- own form. Used by proofs only.
use Rattle.std.specs.Prelude.{◌≡◌, ◌<◌, ℕ, Bool, false, ⊤, Option, None, Some, IsSome}
use Rattle.std.specs.Option.{MatchOption, option_map_or}
use Rattle.zt_rows.specs.declared.keys.RowKey.{RowKey}
use Rattle.zt_rows.specs.declared.rows.Row.{Row}
use Rattle.zt_rows.specs.State.{State, row}

-- the number is after the low one, if there is a low one
abbrev pub IsAfter : Option ℕ → ℕ → Type 0
IsAfter None n = ⊤
IsAfter (Some low) n = low < n

-- the least number after the low one under whose key there is a row, or none where there is none
abbrev pub IsNextUnder : State → (ℕ → RowKey) → Option ℕ → Option ℕ → Type 0
IsNextUnder S key_of low found =
    MatchOption found ((n : ℕ) → IsAfter low n → row S (key_of n) ≡ None)
    (λ n. IsAfter low n × IsSome (row S (key_of n)) × ((m : ℕ) → IsAfter low m → m < n → row S (key_of m) ≡ None))

-- there is a row under the key, and it passes
abbrev pub passes_under : (RowKey → Row → Bool) → State → RowKey → Bool
passes_under test S k = option_map_or (test k) (row S k) false

-- a number after the low one with no row that passes under those in between, or none where no row after the low one
-- passes
abbrev pub IsNextThat : (RowKey → Row → Bool) → State → (ℕ → RowKey) → Option ℕ → Option ℕ → Type 0
IsNextThat test S key_of low found =
    MatchOption found ((n : ℕ) → IsAfter low n → passes_under test S (key_of n) ≡ false)
    (λ n. IsAfter low n × ((m : ℕ) → IsAfter low m → m < n → passes_under test S (key_of m) ≡ false))
