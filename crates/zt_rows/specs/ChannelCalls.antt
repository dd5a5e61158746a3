-- The calls on channels. Names, rights and statuses as in Fuchsia's reference of `zx_channel_create`,
-- `zx_channel_write` and `zx_channel_read`; the order of the checks, which handles a write that fails closes, and
-- which fault of its list counts, is this project's own profile.
use Rattle.std.specs.Prelude.{ℕ, Bool, not, ◌==◌, ◌&&◌, nat_le, if◌then◌else◌, List, [], ◌∷◌, length, None, Some, Result, Ok, ok_or}
use Rattle.zt_bits.specs.declared.kinds.Kind.TheVariants as kind
use Rattle.zt_bits.specs.declared.statuses.Status.{Status}
use Rattle.zt_bits.specs.declared.statuses.Status.TheVariants as status
use Rattle.zt_rows.specs.declared.calls.Reply.{Reply}
use Rattle.zt_rows.specs.declared.calls.Reply.TheVariants as reply
use Rattle.zt_rows.specs.declared.keys.RowKey.TheVariants as key
use Rattle.zt_rows.specs.declared.rows.Held.{Held}
use Rattle.zt_rows.specs.declared.rows.ObjectRow.{ObjectRow}
use Rattle.zt_rows.specs.declared.rows.Row.TheVariants as rows
use Rattle.zt_rows.specs.Contents.{MessageContent}
use Rattle.zt_rows.specs.State.{State, put}
use Rattle.zt_rows.specs.Reads.{object, entry, queue}
use Rattle.zt_rows.specs.Tests.{is_channel, has_all, among, first, raised}
use Rattle.zt_rows.specs.Handles.{◌>>=◌, check, handle, done, answered, take_out_all, caller, install_all, values_from}
use Rattle.zt_rows.specs.ObjectCalls.{create_pair}

abbrev pub channel_create : State → ℕ → State × Reply
channel_create S p = create_pair kind.Channel S p

-- ---- writing

-- what the listed values hold in order, or the status of the first of them that cannot be sent: it is not in
-- the table or stands in the list before, it is the channel's own handle, it may not be transferred.
-- `earlier` are the values that stand before these.
abbrev pub sent : State → ℕ → ℕ → List ℕ → List ℕ → Result (List Held) Status
sent S p h earlier [] = Ok []
sent S p h earlier (g ∷ later) = do
  held ← ok_or (entry S p g) status.BadHandle
  _ ← check (not (among earlier g)) status.BadHandle
  _ ← check (not (g == h)) status.NotSupported
  _ ← check (has_all held.rights.0 0x2) status.AccessDenied
  others ← sent S p h (g ∷ earlier) later
  Ok (held ∷ others)

-- a message at the end of the queue of the endpoint with this row
abbrev pub push_message : ℕ → ObjectRow → MessageContent → State → State
push_message x o m S = put (put S (key.Msg x o.next) (Some (rows.Msg m))) (key.Object x) (Some (rows.Object (raised o)))

-- bytes and handles for the peer. The listed handles that are in the table leave it in any case: into the
-- message, or, where the call fails, for good.
abbrev pub channel_write : State → ℕ → ℕ → List ℕ → List ℕ → State × Reply
channel_write S p h bytes handles = answered (take_out_all S p (among handles)) (do
  (_, o) ← handle S p h is_channel 0x8
  held ← sent S p h [] handles
  peer ← ok_or (object S o.link) status.PeerClosed
  Ok (push_message o.link peer (record { bytes = bytes; handles = held }) (take_out_all S p (among handles)), done))

-- ---- reading

-- the caller asked for at least as many bytes and handles
abbrev pub has_room_for : ℕ → ℕ → MessageContent → Bool
has_room_for bytes handles m = nat_le (length m.bytes) bytes && nat_le (length m.handles) handles

-- the message of this number leaves the queue, and the caller receives its handles
abbrev pub take_message : State → ℕ → ℕ → ℕ → MessageContent → State × Reply
take_message S p x n m =
    (install_all p (caller S p) m.handles (put S (key.Msg x n) None), reply.Message m.bytes (values_from (caller S p).next m.handles))

-- how large the message is; where it is to be discarded, it goes with its handles
abbrev pub refuse_message : State → ℕ → ℕ → MessageContent → Bool → State × Reply
refuse_message S x n m discard =
    (if discard then put S (key.Msg x n) None else S, reply.TooSmall (length m.bytes) (length m.handles))

-- the first message of the endpoint's queue, where the caller has room for it
abbrev pub channel_read : State → ℕ → ℕ → ℕ → ℕ → Bool → State × Reply
channel_read S p h bytes handles discard = answered S (do
  (held, o) ← handle S p h is_channel 0x4
  (n, m) ← ok_or (first (queue S held.koid)) (if o.link == 0 then status.PeerClosed else status.ShouldWait)
  Ok (if has_room_for bytes handles m then take_message S p held.koid n m else refuse_message S held.koid n m discard))
