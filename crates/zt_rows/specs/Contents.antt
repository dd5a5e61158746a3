-- What messages and parcels carry, and how much: this project's restatement of a channel's limits.
use Rattle.std.specs.Prelude.{ℕ, ◌≤◌, List, length}
use Rattle.zt_rows.specs.declared.rows.Held.{Held}

-- what a queued message carries
pub record MessageContent : Type 0 where
  pub bytes : List ℕ
  pub handles : List Held

-- what a call wants to send: the handles are values of the caller's table
pub record ParcelContent : Type 0 where
  pub bytes : List ℕ
  pub handles : List ℕ

-- no more than a message may carry
abbrev pub IsWithinMessage : {A : Type 0} → List ℕ → List A → Type 0
IsWithinMessage bytes handles = (length bytes ≤ 65536) × (length handles ≤ 64)
