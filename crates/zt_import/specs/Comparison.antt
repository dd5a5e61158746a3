-- When a reply is what a log has. Compared are the status, the number of handles and, where the log has them, the bytes of a
-- message and the packet of a port; the values of handles are those of another system. This project's own.
use Rattle.std.specs.Prelude.{ℕ, Bool, true, false, ◌==◌, ◌&&◌, List, length, Option, Some, None}
use Rattle.std.specs.Cmp.Lexicographic.{pointwise}
use Rattle.zt_bits.specs.declared.statuses.Status.{Status}
use Rattle.zt_bits.specs.declared.statuses.Status.TheVariants as status
use Rattle.zt_bits.specs.Words.{status_number}
use Rattle.zt_rows.specs.declared.calls.Call.{Call}
use Rattle.zt_rows.specs.declared.calls.Call.TheVariants as call
use Rattle.zt_rows.specs.declared.calls.Reply.{Reply}
use Rattle.zt_rows.specs.declared.calls.Reply.TheVariants as reply
use Rattle.zt_rows.specs.declared.rows.Packet.{Packet}
use Rattle.zt_rows.specs.declared.rows.Packet.TheVariants as packet
use Rattle.zt_rows.specs.Tests.{status_of}
use Rattle.zt_logs.specs.declared.logged.LoggedCall.{LoggedCall}
use Rattle.zt_logs.specs.declared.logged.LoggedPacket.{LoggedPacket}
use Rattle.zt_logs.specs.declared.logged.LoggedPacket.TheVariants as logged
use Rattle.zt_logs.specs.declared.logged.RecordedReply.{RecordedReply}

-- ---- what a reply has

-- how many handles the caller got
abbrev pub handle_count : Reply → ℕ
handle_count (reply.Handle _) = 1
handle_count (reply.Spawned _ _) = 1
handle_count (reply.Handles _ _) = 2
handle_count (reply.Message _ handles) = length handles
handle_count _ = 0

-- a packet as logs have it
abbrev pub logged_packet : Packet → LoggedPacket
logged_packet (packet.User key bytes) = logged.User key bytes
logged_packet (packet.Signal key trigger observed _ _) = logged.Signal key trigger observed

-- ---- when it is what the log has

abbrev pub is_status : Option Status → Status → Bool
is_status None answered = false
is_status (Some recorded) answered = status_number recorded == status_number answered

abbrev pub same_bytes : List ℕ → List ℕ → Bool
same_bytes bytes others = pointwise (λ x y. x == y) bytes others

abbrev pub same_packet : LoggedPacket → LoggedPacket → Bool
same_packet (logged.User key bytes) (logged.User other others) = (key == other) && same_bytes bytes others
same_packet (logged.Signal key trigger observed) (logged.Signal other waited stood) =
    (key == other) && (trigger.0 == waited.0) && (observed.0 == stood.0)
same_packet _ _ = false

abbrev pub bytes_agree : Option (List ℕ) → Reply → Bool
bytes_agree None answered = true
bytes_agree (Some bytes) (reply.Message read _) = same_bytes read bytes
bytes_agree (Some bytes) _ = false

abbrev pub packets_agree : Option LoggedPacket → Reply → Bool
packets_agree None answered = true
packets_agree (Some recorded) (reply.Packet got) = same_packet recorded (logged_packet got)
packets_agree (Some recorded) _ = false

-- the reply has the status, the number of handles, the bytes and the packet that the log has; a call that was not made never agrees
abbrev pub agrees : RecordedReply → Option Reply → Bool
agrees recorded None = false
agrees recorded (Some answered) =
    is_status recorded.status (status_of answered) && (length recorded.handles == handle_count answered)
    && bytes_agree recorded.bytes answered && packets_agree recorded.packet answered

-- ---- what may differ by the schedule

abbrev pub is_wait : Call → Bool
is_wait (call.PortWait _) = true
is_wait _ = false

-- a wait with this status got a packet, or timed out
abbrev pub waited : Option Status → Bool
waited (Some status.Ok) = true
waited (Some status.TimedOut) = true
waited _ = false

-- a wait for a packet that got one or timed out, on both sides, and differs in nothing else
abbrev pub may_be_scheduled : LoggedCall → Option Reply → Bool
may_be_scheduled made None = false
may_be_scheduled made (Some answered) =
    is_wait made.call && waited made.recorded.status && waited (Some (status_of answered))
    && (length made.recorded.handles == handle_count answered) && bytes_agree made.recorded.bytes answered
