-- The packets of a port one by one, by their numbers.
use Rattle.std.specs.Prelude.{◌≡◌, ℕ, ◌-◌, ◌^◌, ◌<◌, Bool, false, Option, Some, None}
use Rattle.std.specs.Option.{option_map_or}
use Rattle.zt_rows.specs.Reads.{packet}
use Rattle.zt_rows.specs.State.{State}
use Rattle.zt_index.specs.Chains.{IsShortOf}
use Rattle.zt_logs.specs.declared.logged.LoggedPacket.{LoggedPacket}
use Rattle.zt_import.specs.Schedule.{is_recorded}

-- the packet of this number in the port is the one that the log has
abbrev pub is_queued_under : State → ℕ → Option LoggedPacket → ℕ → Bool
is_queued_under S port recorded number = option_map_or (is_recorded recorded) (packet S port number) false

-- none before this number is
abbrev pub AreOthersBefore : State → ℕ → Option LoggedPacket → Option ℕ → Type 0
AreOthersBefore S port recorded next =
    (number : ℕ) → IsShortOf (λ a b. a < b) next number → is_queued_under S port recorded number ≡ false

-- how many numbers are left
abbrev pub left_from : Option ℕ → ℕ
left_from None = 0
left_from (Some number) = 2 ^ 64 - number
