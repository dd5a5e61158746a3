-- The end of every call: the signals that follow from the rows are written anew, then the waits whose signals
-- stand, or came to stand in this call, become packets of their ports. Signals, one-shot waits and waits on edges as
-- in Fuchsia's reference of signals and of `zx_object_wait_async`; the order of packets within a call, the signals of
-- jobs without children, and that a call's start and end are what an edge lies between, are this project's own
-- profile.
use Rattle.std.specs.Prelude.{ℕ, Bool, false, not, ◌==◌, ◌&&◌, if◌then◌else◌, fold, Option, None, Some, bit_and, bit_or}
use Rattle.zt_bits.specs.declared.kinds.Kind.{Kind}
use Rattle.zt_bits.specs.declared.kinds.Kind.TheVariants as kind
use Rattle.zt_rows.specs.declared.keys.RowKey.{RowKey}
use Rattle.zt_rows.specs.declared.keys.RowKey.TheVariants as key
use Rattle.zt_rows.specs.declared.rows.Held.{Held}
use Rattle.zt_rows.specs.declared.rows.ObjectRow.{ObjectRow}
use Rattle.zt_rows.specs.declared.rows.Packet.{Packet}
use Rattle.zt_rows.specs.declared.rows.Packet.TheVariants as packet
use Rattle.zt_rows.specs.declared.rows.Wait.{Wait}
use Rattle.zt_rows.specs.declared.rows.Row.{Row}
use Rattle.zt_rows.specs.declared.rows.Row.TheVariants as rows
use Rattle.zt_rows.specs.State.{State, put, change}
use Rattle.zt_rows.specs.Reads.{object, entry, waits, is_live, is_live_job, is_live_process}
use Rattle.zt_rows.specs.Tests.{without_bits, signals_at, raised, any_row}

-- ---- derived signals

-- the signals of a kind that follow from the rows; no call sets or clears them
abbrev pub derived_mask : Kind → ℕ
derived_mask kind.Job = 0x38
derived_mask kind.Process = 0x8
derived_mask kind.Channel = 0x7
derived_mask kind.Event = 0
derived_mask kind.EventPair = 0x4
derived_mask kind.Port = 0

abbrev pub is_message_of : ℕ → RowKey → Row → Bool
is_message_of x (key.Msg e n) (rows.Msg m) = e == x
is_message_of x _ _ = false

abbrev pub is_child_job_of : ℕ → RowKey → Row → Bool
is_child_job_of x (key.Object y) (rows.Object o) = is_live_job o && (o.link == x)
is_child_job_of x _ _ = false

abbrev pub is_child_process_of : ℕ → RowKey → Row → Bool
is_child_process_of x (key.Object y) (rows.Object o) = is_live_process o && (o.link == x)
is_child_process_of x _ _ = false

-- the bit, where the test holds
abbrev pub bit_if : Bool → ℕ → ℕ
bit_if test bit = if test then bit else 0

-- readable while a message is queued
abbrev pub readable : State → ℕ → ℕ
readable S x = bit_if (any_row (is_message_of x) S) 0x1

-- writable while the peer is there
abbrev pub writable : ObjectRow → ℕ
writable o = bit_if (not (o.link == 0)) 0x2

-- peer closed once the peer is gone
abbrev pub peer_closed : ObjectRow → ℕ
peer_closed o = bit_if (o.link == 0) 0x4

-- terminated once it has ended
abbrev pub terminated : ObjectRow → ℕ
terminated o = bit_if (not (is_live o.life)) 0x8

-- no jobs while no live job is its child
abbrev pub no_jobs : State → ℕ → ℕ
no_jobs S x = bit_if (not (any_row (is_child_job_of x) S)) 0x10

-- no processes while no live process is its child
abbrev pub no_processes : State → ℕ → ℕ
no_processes S x = bit_if (not (any_row (is_child_process_of x) S)) 0x20

abbrev pub derived_by : Kind → State → ℕ → ObjectRow → ℕ
derived_by kind.Job S x o = bit_or (terminated o) (bit_or (no_jobs S x) (no_processes S x))
derived_by kind.Process S x o = terminated o
derived_by kind.Channel S x o = bit_or (readable S x) (bit_or (writable o) (peer_closed o))
derived_by kind.Event S x o = 0
derived_by kind.EventPair S x o = peer_closed o
derived_by kind.Port S x o = 0

-- the derived signals that the rows of S give the object
abbrev pub derived : State → ℕ → ObjectRow → ℕ
derived S x o = derived_by o.kind S x o

-- all signals of the object, the derived ones anew
abbrev pub renewed : State → ℕ → ObjectRow → ℕ
renewed S x o = bit_or (without_bits o.signals.0 (derived_mask o.kind)) (derived S x o)

abbrev pub refreshed : State → RowKey → Row → Option Row
refreshed S (key.Object x) (rows.Object o) = Some (rows.Object (record o { signals = record { 0 = renewed S x o } }))
refreshed S k r = Some r

-- every object's derived signals anew
unfoldable pub refresh : State → State
refresh S = change (refreshed S) S

-- ---- firing

-- a packet at the end of the port with this row
abbrev pub push_packet : ℕ → ObjectRow → Packet → State → State
push_packet x port parcel S =
    put (put S (key.Packet x port.next) (Some (rows.Packet parcel))) (key.Object x) (Some (rows.Object (raised port)))

abbrev pub signals_by : State → Option Held → ℕ
signals_by S (Some held) = signals_at S held.koid
signals_by S None = 0

-- all the signals on what the wait's handle names
abbrev pub observed : State → Wait → ℕ
observed S w = signals_by S (entry S w.process w.handle)

-- those of them in T that did not stand on it in S
abbrev pub risen : State → State → Wait → ℕ
risen S T w = without_bits (observed T w) (signals_by S (entry T w.process w.handle))

-- one of the signals waited for stands in T; for a wait on an edge, one that did not stand in S
abbrev pub is_met : State → State → Wait → Bool
is_met S T w = not (bit_and w.signals.0 (if w.edge then risen S T w else observed T w) == 0)

-- the news that the wait fired
abbrev pub news : State → Wait → Packet
news S w = packet.Signal w.key w.signals (record { 0 = observed S w }) w.process w.handle

abbrev pub fire_into : Option ObjectRow → State → ℕ × Wait → State
fire_into (Some port) S (n, w) = push_packet w.port port (news S w) (put S (key.Wait n) None)
fire_into None S (n, w) = S

-- a wait that is met in T, after S, goes, and its packet comes to the end of its port
abbrev pub fire : State → State → ℕ × Wait → State
fire S T (n, w) = if is_met S T w then fire_into (object T w.port) T (n, w) else T

-- the end of a call that began in S and has come to T: derived signals anew, then each wait in rising number
unfoldable pub settle : State → State → State
settle S T = let U = refresh T in fold (fire S) U (waits U)
