-- What kind of object it is whose signals a call, its reply or a row tells. This project's own.
use Rattle.std.specs.Prelude.{ℕ, Option, None, Some, List}
use Rattle.zt_bits.specs.declared.kinds.Kind.{Kind}
use Rattle.zt_rows.specs.declared.calls.Call.{Call}
use Rattle.zt_rows.specs.declared.calls.Call.TheVariants as calls
use Rattle.zt_rows.specs.declared.calls.Reply.{Reply}
use Rattle.zt_rows.specs.declared.calls.Reply.TheVariants as reply
use Rattle.zt_rows.specs.declared.rows.Held.{Held}
use Rattle.zt_rows.specs.declared.rows.Packet.{Packet}
use Rattle.zt_rows.specs.declared.rows.Packet.TheVariants as packet
use Rattle.zt_rows.specs.declared.rows.Row.{Row}
use Rattle.zt_rows.specs.declared.rows.Row.TheVariants as rows
use Rattle.zt_rows.specs.Reads.{entry}
use Rattle.zt_rows.specs.State.{State}
use Rattle.zt_rows.specs.Tests.{kind_at}
use Rattle.zt_history.specs.Tree.{Made, state_at}
use Rattle.zt_look.specs.declared.call_list.CallMade.{CallMade}
use Rattle.zt_look.specs.declared.changes.Change.{Change}
use Rattle.zt_look.specs.EventList.{kind_or}

-- ---- the handle, with its process, by which the object was named

abbrev pub in_packet : Packet → Option (ℕ × ℕ)
in_packet (packet.User _ _) = None
in_packet (packet.Signal _ _ _ process handle) = Some (process, handle)

-- the process and the handle that a wait names, or a packet of one
abbrev pub in_row : Row → Option (ℕ × ℕ)
in_row (rows.Wait wait) = Some (wait.process, wait.handle)
in_row (rows.Packet held) = in_packet held
in_row _ = None

abbrev pub in_call : ℕ → Call → Option (ℕ × ℕ)
in_call process (calls.ObjectSignal handle _ _) = Some (process, handle)
in_call process (calls.ObjectSignalPeer handle _ _) = Some (process, handle)
in_call process (calls.ObjectWaitAsync handle _ _ _ _) = Some (process, handle)
in_call process _ = None

-- by a call, or by the packet that it was answered
abbrev pub in_answered : ℕ → Call → Reply → Option (ℕ × ℕ)
in_answered process call (reply.Packet held) = in_packet held
in_answered process call _ = in_call process call

-- ---- its kind

abbrev pub kind_held : State → Option Held → Option Kind
kind_held S None = None
kind_held S (Some held) = kind_at S held.koid

-- that of the object that the handle names in a state, if it names one there
abbrev pub kind_named : State → Option (ℕ × ℕ) → Option Kind
kind_named S None = None
kind_named S (Some (process, handle)) = kind_held S (entry S process handle)

-- the kind of the object whose signals the row tells, if it tells some
abbrev pub kind_of_row : State → Row → Option Kind
kind_of_row S row = kind_named S (in_row row)

-- the kind of the object whose signals the row tells, none where there is no row
abbrev pub kind_in : State → Option Row → Option Kind
kind_in S None = None
kind_in S (Some row) = kind_of_row S row

-- the kind of the object whose signals the call tells, or the packet that answered it, in the state after the call
abbrev pub kind_of_call : List Made → CallMade → Option Kind
kind_of_call made call = kind_named (state_at made call.moment) (in_answered call.process call.call call.reply)

-- the kind that a changed row tells at the second of two moments, or else at the first; for what a call changed, these are the
-- moment before the call and its own
abbrev pub kind_between : List Made → ℕ → ℕ → Change → Option Kind
kind_between made a b change = kind_or (kind_in (state_at made b) change.after) (kind_in (state_at made a) change.before)
