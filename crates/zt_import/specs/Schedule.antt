-- What a schedule can do: a wait for a packet ends with another one, or with none, only where the packet that the log has
-- stands in the port's queue near by, or where the queue was empty shortly before. This project's own.
use Rattle.std.specs.Prelude.{ℕ, ◌+◌, ◌-◌, ◌*◌, Bool, true, false, not, ◌==◌, ◌&&◌, nat_lt, List, take, drop, Option, Some, None}
use Rattle.std.specs.List.{list_any}
use Rattle.std.specs.Option.{option_map}
use Rattle.zt_bits.specs.declared.statuses.Status.{Status}
use Rattle.zt_bits.specs.declared.statuses.Status.TheVariants as status
use Rattle.zt_rows.specs.declared.calls.Call.{Call}
use Rattle.zt_rows.specs.declared.calls.Call.TheVariants as call
use Rattle.zt_rows.specs.declared.keys.RowKey.{RowKey}
use Rattle.zt_rows.specs.declared.keys.RowKey.TheVariants as key
use Rattle.zt_rows.specs.declared.rows.Packet.{Packet}
use Rattle.zt_rows.specs.declared.rows.Row.{Row}
use Rattle.zt_rows.specs.declared.rows.Row.TheVariants as rows
use Rattle.zt_rows.specs.Reads.{entry}
use Rattle.zt_rows.specs.State.{State}
use Rattle.zt_rows.specs.Tests.{any_row}
use Rattle.zt_history.specs.Tree.{Made, call_at, reply_at, state_at}
use Rattle.zt_logs.specs.declared.logged.LoggedCall.{LoggedCall}
use Rattle.zt_logs.specs.declared.logged.LoggedPacket.{LoggedPacket}
use Rattle.zt_import.specs.declared.schedule.AskedCall.{AskedCall}
use Rattle.zt_import.specs.declared.schedule.Sought.{Sought}
use Rattle.zt_import.specs.declared.schedule.Sought.TheVariants as sought
use Rattle.zt_import.specs.Comparison.{logged_packet, same_packet, may_be_scheduled}

-- ---- the queue of a port at a moment

-- the packet is the one that the log has; any is, where the log tells none
abbrev pub is_recorded : Option LoggedPacket → Packet → Bool
is_recorded None packet = true
is_recorded (Some recorded) packet = same_packet recorded (logged_packet packet)

-- the row is such a packet in the queue of the port
abbrev pub is_queued : ℕ → Option LoggedPacket → RowKey → Row → Bool
is_queued port recorded (key.Packet owner number) (rows.Packet packet) = (owner == port) && is_recorded recorded packet
is_queued port recorded _ _ = false

-- one stands in the port's queue
abbrev pub holds : State → ℕ → Option LoggedPacket → Bool
holds S port recorded = any_row (is_queued port recorded) S

-- the port on which a call waits, by the handles of its process
abbrev pub port_of : State → Option (ℕ × Call) → Option ℕ
port_of S (Some (process, call.PortWait port)) = option_map (λ held. held.koid) (entry S process port)
port_of S _ = None

abbrev pub port_at : List Made → ℕ → Option ℕ
port_at made moment = port_of (state_at made moment) (call_at made moment)

-- ---- moments near a line

-- the most lines between two calls that are near each other
abbrev pub most_lines : ℕ
most_lines = 512

-- the lines are at most so many apart
abbrev pub is_near : ℕ → ℕ → Bool
is_near line other = nat_lt other (line + (most_lines + 1)) && nat_lt line (other + (most_lines + 1))

-- the other line stands ahead of this one, and is near
abbrev pub is_shortly_before : ℕ → ℕ → Bool
is_shortly_before line other = nat_lt other line && nat_lt line (other + (most_lines + 1))

-- 1,025 calls of the log, from 512 before the one of this number on, or from the first call of the log
abbrev pub around : ℕ → List AskedCall → List AskedCall
around number asked = take (2 * most_lines + 1) (drop (number - most_lines) asked)

-- ---- what a wait could have met

-- what has to be near: a packet in the port's queue before or behind, or, for a wait that timed out, no packet in it before, by the
-- lines and by the moments
abbrev pub is_met_at : List Made → ℕ → ℕ → ℕ → Sought → ℕ → Option ℕ → Bool
is_met_at made port line waited (sought.Queued recorded) other (Some moment) =
    is_near line other && holds (state_at made moment) port recorded
is_met_at made port line waited sought.Empty other (Some moment) =
    (is_shortly_before line other && nat_lt moment waited) && not (holds (state_at made moment) port None)
is_met_at made port line waited it other None = false

abbrev pub is_met_by : List Made → ℕ → ℕ → ℕ → Sought → AskedCall → Bool
is_met_by made port line waited it asked = is_met_at made port line waited it asked.line asked.moment

-- some call of the list has made a moment at which it is so
abbrev pub is_met : List Made → ℕ → ℕ → ℕ → Sought → List AskedCall → Bool
is_met made port line waited it asked = list_any (is_met_by made port line waited it) asked

-- what a wait with this status in the log looks for, and with this packet, if the log tells one
abbrev pub sought_for : Option Status → Option LoggedPacket → Sought
sought_for (Some status.TimedOut) recorded = sought.Empty
sought_for _ recorded = sought.Queued recorded

abbrev pub is_met_on : List Made → Option ℕ → LoggedCall → ℕ → List AskedCall → Bool
is_met_on made None logged waited asked = false
is_met_on made (Some port) logged waited asked =
    is_met made port logged.line waited (sought_for logged.recorded.status logged.recorded.packet) asked

-- a schedule can have made the difference at the call of this number, which made this moment
abbrev pub by_schedule : List Made → List AskedCall → LoggedCall → ℕ → Option ℕ → Bool
by_schedule made asked logged number None = false
by_schedule made asked logged number (Some moment) =
    may_be_scheduled logged (reply_at made moment) && is_met_on made (port_at made moment) logged moment (around number asked)
