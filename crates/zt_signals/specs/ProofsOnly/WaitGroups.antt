-- What a walk over waits looks for, and where it goes on. This project's own form. Used by proofs only.
use Rattle.std.specs.Prelude.{ℕ, Bool, Option}
use Rattle.zt_rows.specs.declared.keys.RowKey.TheVariants as key
use Rattle.zt_rows.specs.declared.rows.Wait.{Wait}
use Rattle.zt_rows.specs.State.{State}
use Rattle.zt_signals.specs.declared.wait_group.WaitGroup.{WaitGroup}
use Rattle.zt_signals.specs.declared.wait_group.WaitGroup.TheVariants as picked
use Rattle.zt_signals.specs.ProofsOnly.KeyWalk.{IsNextThat, passes_under}
use Rattle.zt_signals.specs.DroppedWaits.{is_wait_where, made_on, made_under}

-- the wait is one of those that are picked
abbrev pub picks : WaitGroup → Wait → Bool
picks (picked.On p h) = made_on p h
picks (picked.Under x p h packet_key) = made_under x p h packet_key

-- the wait of this number passes
abbrev pub is_picked : (Wait → Bool) → State → ℕ → Bool
is_picked test S n = passes_under (is_wait_where test) S (key.Wait n)

-- the least number after the low one of a wait that passes, or one below it; none where no wait after the low one
-- passes
abbrev pub IsNextPicked : (Wait → Bool) → State → Option ℕ → Option ℕ → Type 0
IsNextPicked test S low found = IsNextThat (is_wait_where test) S (λ n. key.Wait n) low found
