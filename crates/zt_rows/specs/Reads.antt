-- Looks at a state: what stands under a key of each variant, and the lists of what one owner has, by rising
-- number. A row of another variant than its key's is skipped. This project's own form.
use Rattle.std.specs.Prelude.{ℕ, Bool, true, false, ◌==◌, ◌&&◌, if◌then◌else◌, List, Option, None, Some}
use Rattle.std.specs.List.{filter_map, list_any}
use Rattle.zt_bits.specs.declared.kinds.Kind.{Kind}
use Rattle.zt_bits.specs.declared.kinds.Kind.TheVariants as kind
use Rattle.zt_rows.specs.declared.keys.RowKey.{RowKey}
use Rattle.zt_rows.specs.declared.keys.RowKey.TheVariants as key
use Rattle.zt_rows.specs.declared.rows.Counters.{Counters}
use Rattle.zt_rows.specs.declared.rows.Held.{Held}
use Rattle.zt_rows.specs.declared.rows.Life.{Life}
use Rattle.zt_rows.specs.declared.rows.Life.TheVariants as life
use Rattle.zt_rows.specs.declared.rows.ObjectRow.{ObjectRow}
use Rattle.zt_rows.specs.declared.rows.Packet.{Packet}
use Rattle.zt_rows.specs.declared.rows.Wait.{Wait}
use Rattle.zt_rows.specs.declared.rows.Row.{Row}
use Rattle.zt_rows.specs.declared.rows.Row.TheVariants as rows
use Rattle.zt_rows.specs.Contents.{MessageContent}
use Rattle.zt_rows.specs.State.{State, row}

-- ---- a row, if it is of the variant

abbrev pub as_counters : Option Row → Counters
as_counters (Some (rows.Counters c)) = c
as_counters _ = record { next_koid = 0; next_wait = 0 }

abbrev pub as_object : Option Row → Option ObjectRow
as_object (Some (rows.Object o)) = Some o
as_object _ = None

abbrev pub as_entry : Option Row → Option Held
as_entry (Some (rows.Entry held)) = Some held
as_entry _ = None

abbrev pub as_message : Option Row → Option MessageContent
as_message (Some (rows.Msg m)) = Some m
as_message _ = None

abbrev pub as_packet : Option Row → Option Packet
as_packet (Some (rows.Packet p)) = Some p
as_packet _ = None

abbrev pub as_wait : Option Row → Option Wait
as_wait (Some (rows.Wait w)) = Some w
as_wait _ = None

-- the row is an entry that names the object, or a message with a handle that does
abbrev pub names : ℕ → Option Row → Bool
names x (Some (rows.Entry held)) = held.koid == x
names x (Some (rows.Msg m)) = list_any (λ held. held.koid == x) m.handles
names x _ = false

-- ---- what stands under a key

-- the next numbers that the system gives out
abbrev pub counters : State → Counters
counters S = as_counters (row S key.Counters)

-- the object of this koid
abbrev pub object : State → ℕ → Option ObjectRow
object S x = as_object (row S (key.Object x))

-- what the process holds by this handle value
abbrev pub entry : State → ℕ → ℕ → Option Held
entry S p h = as_entry (row S (key.Entry p h))

-- the message of this number in the endpoint's queue
abbrev pub message : State → ℕ → ℕ → Option MessageContent
message S e n = as_message (row S (key.Msg e n))

-- the packet of this number in the port
abbrev pub packet : State → ℕ → ℕ → Option Packet
packet S p n = as_packet (row S (key.Packet p n))

-- the wait of this number
abbrev pub wait : State → ℕ → Option Wait
wait S n = as_wait (row S (key.Wait n))

-- ---- lists, by rising number

abbrev pub object_at : RowKey × Row → Option (ℕ × ObjectRow)
object_at (key.Object x, rows.Object o) = Some (x, o)
object_at _ = None

-- all objects with their koids
unfoldable pub objects : State → List (ℕ × ObjectRow)
objects S = filter_map object_at S.rows

abbrev pub message_at : RowKey × Row → Option (ℕ × ℕ × MessageContent)
message_at (key.Msg e n, rows.Msg m) = Some (e, n, m)
message_at _ = None

-- all messages with their endpoint and number
unfoldable pub messages : State → List (ℕ × ℕ × MessageContent)
messages S = filter_map message_at S.rows

abbrev pub queued : ℕ → RowKey × Row → Option (ℕ × MessageContent)
queued e (key.Msg f n, rows.Msg m) = if e == f then Some (n, m) else None
queued e _ = None

-- the queue of an endpoint: its messages with their numbers
unfoldable pub queue : State → ℕ → List (ℕ × MessageContent)
queue S e = filter_map (queued e) S.rows

abbrev pub packet_of : ℕ → RowKey × Row → Option (ℕ × Packet)
packet_of p (key.Packet q n, rows.Packet k) = if p == q then Some (n, k) else None
packet_of p _ = None

-- the packets of a port with their numbers
unfoldable pub packets : State → ℕ → List (ℕ × Packet)
packets S p = filter_map (packet_of p) S.rows

abbrev pub wait_at : RowKey × Row → Option (ℕ × Wait)
wait_at (key.Wait n, rows.Wait w) = Some (n, w)
wait_at _ = None

-- all waits with their numbers
unfoldable pub waits : State → List (ℕ × Wait)
waits S = filter_map wait_at S.rows

-- ---- tests of an object

abbrev pub is_live : Life → Bool
is_live life.Live = true
is_live _ = false

abbrev pub is_job : Kind → Bool
is_job kind.Job = true
is_job _ = false

abbrev pub is_process : Kind → Bool
is_process kind.Process = true
is_process _ = false

-- a process or a job that has not ended
abbrev pub is_live_process : ObjectRow → Bool
is_live_process o = is_process o.kind && is_live o.life

abbrev pub is_live_job : ObjectRow → Bool
is_live_job o = is_job o.kind && is_live o.life

-- the koid is that of a live process: the premise of every call
abbrev pub on_object : (ObjectRow → Bool) → Option ObjectRow → Bool
on_object p (Some o) = p o
on_object p None = false

abbrev pub has_live_process : State → ℕ → Bool
has_live_process S p = on_object is_live_process (object S p)
