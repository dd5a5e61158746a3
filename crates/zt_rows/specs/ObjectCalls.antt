-- The calls on handles, on events and event pairs, and on the signals of objects of any kind. Names, rights,
-- signals and statuses as in Fuchsia's reference of the system calls of the same names; the order of the checks,
-- and that a replacement that fails closes the handle, is this project's own profile.
use Rattle.std.specs.Prelude.{ℕ, ◌+◌, Bool, ◌==◌, ◌&&◌, if◌then◌else◌, Some, Ok, ok_or, bit_or}
use Rattle.zt_bits.specs.declared.kinds.Kind.{Kind}
use Rattle.zt_bits.specs.declared.kinds.Kind.TheVariants as kind
use Rattle.zt_bits.specs.declared.statuses.Status.TheVariants as status
use Rattle.zt_bits.specs.Tables.{asked_rights, settable_signals}
use Rattle.zt_rows.specs.declared.calls.Reply.{Reply}
use Rattle.zt_rows.specs.declared.calls.Reply.TheVariants as reply
use Rattle.zt_rows.specs.declared.keys.RowKey.TheVariants as key
use Rattle.zt_rows.specs.declared.rows.Held.{Held}
use Rattle.zt_rows.specs.declared.rows.ObjectRow.{ObjectRow}
use Rattle.zt_rows.specs.declared.rows.Row.TheVariants as rows
use Rattle.zt_rows.specs.State.{State, put}
use Rattle.zt_rows.specs.Reads.{counters, object, entry}
use Rattle.zt_rows.specs.Tests.{any_kind, is_endpoint, has_all, without_bits, raised}
use Rattle.zt_rows.specs.Handles.{◌>>=◌, check, handle, handle_else, done, answered, take_out, value_of, caller, install, whole, fresh, next_koid, make, make_pair}

-- ---- making objects

-- a new object of this kind; ok with the caller's handle to it
abbrev pub create : Kind → State → ℕ → State × Reply
create made S p =
    (install p (caller S p) (whole (next_koid S) made) (make (counters S) (fresh made 0) S), reply.Handle (value_of (caller S p).next))

-- two new objects of this kind, each the other's peer; ok with the caller's handles to them in order
abbrev pub create_pair : Kind → State → ℕ → State × Reply
create_pair made S p =
    let me = caller S p in
    let k = next_koid S in
    let first = install p me (whole k made) (make_pair (counters S) made S) in
    (install p (raised me) (whole (k + 1) made) first, reply.Handles (value_of me.next) (value_of (me.next + 1)))

abbrev pub event_create : State → ℕ → State × Reply
event_create S p = create kind.Event S p

abbrev pub eventpair_create : State → ℕ → State × Reply
eventpair_create S p = create_pair kind.EventPair S p

-- ---- handles

-- closing 0 is nothing; any other value has to be in the table
abbrev pub handle_close : State → ℕ → ℕ → State × Reply
handle_close S p h = answered S (if h == 0 then Ok (S, done) else do
  _ ← ok_or (entry S p h) status.BadHandle
  Ok (take_out S p h, done))

-- the caller receives what is held once more, with these rights; ok with the new value
abbrev pub received : ℕ → State → ℕ → Held → State → State × Reply
received rights S p held T =
    (install p (caller S p) (record held { rights = record { 0 = rights } }) T, reply.Handle (value_of (caller S p).next))

-- a second handle with the rights asked for; the first one needs the right to be duplicated
abbrev pub handle_duplicate : State → ℕ → ℕ → ℕ → State × Reply
handle_duplicate S p h mask = answered S (do
  (held, _) ← handle S p h any_kind 0x1
  rights ← ok_or (asked_rights mask held.rights.0) status.InvalidArgs
  Ok (received rights S p held S))

-- a handle with the rights asked for in the place of the old one, which is closed also where they are refused
abbrev pub handle_replace : State → ℕ → ℕ → ℕ → State × Reply
handle_replace S p h mask = answered S (do
  held ← ok_or (entry S p h) status.BadHandle
  Ok (answered (take_out S p h) (do
    rights ← ok_or (asked_rights mask held.rights.0) status.InvalidArgs
    Ok (received rights S p held (take_out S p h)))))

-- ---- signals

-- both masks only of signals that a call may set on the kind
abbrev pub may_set : Kind → ℕ → ℕ → Bool
may_set on clear set = has_all (settable_signals on) clear && has_all (settable_signals on) set

-- the object with this row, its signals without `clear` and then with `set`
abbrev pub set_signals : ℕ → ObjectRow → ℕ → ℕ → State → State
set_signals x o clear set S =
    put S (key.Object x) (Some (rows.Object (record o { signals = record { 0 = bit_or (without_bits o.signals.0 clear) set } })))

-- signals of the object that the handle names
abbrev pub object_signal : State → ℕ → ℕ → ℕ → ℕ → State × Reply
object_signal S p h clear set = answered S (do
  (held, o) ← handle S p h any_kind 0x1000
  _ ← check (may_set o.kind clear set) status.InvalidArgs
  Ok (set_signals held.koid o clear set S, done))

-- signals of the peer of the endpoint that the handle names
abbrev pub object_signal_peer : State → ℕ → ℕ → ℕ → ℕ → State × Reply
object_signal_peer S p h clear set = answered S (do
  (_, o) ← handle_else status.NotSupported S p h is_endpoint 0x2000
  _ ← check (may_set o.kind clear set) status.InvalidArgs
  peer ← ok_or (object S o.link) status.PeerClosed
  Ok (set_signals o.link peer clear set S, done))
