-- The calls on ports and the waits that send packets to them. Names, rights and statuses as in Fuchsia's
-- reference of `zx_port_create`, `zx_port_queue`, `zx_port_wait`, `zx_port_cancel` and `zx_object_wait_async`;
-- the order of the checks, the limit on packets, and that the deadline of a wait has always passed, is this
-- project's own profile.
use Rattle.std.specs.Prelude.{ℕ, ◌+◌, Bool, true, false, ◌==◌, ◌&&◌, nat_lt, if◌then◌else◌, List, None, Some, Ok, ok_or}
use Rattle.zt_bits.specs.declared.kinds.Kind.TheVariants as kind
use Rattle.zt_bits.specs.declared.statuses.Status.TheVariants as status
use Rattle.zt_rows.specs.declared.calls.Reply.{Reply}
use Rattle.zt_rows.specs.declared.calls.Reply.TheVariants as reply
use Rattle.zt_rows.specs.declared.keys.RowKey.{RowKey}
use Rattle.zt_rows.specs.declared.keys.RowKey.TheVariants as key
use Rattle.zt_rows.specs.declared.rows.Counters.{Counters}
use Rattle.zt_rows.specs.declared.rows.Packet.{Packet}
use Rattle.zt_rows.specs.declared.rows.Packet.TheVariants as packet
use Rattle.zt_rows.specs.declared.rows.Row.{Row}
use Rattle.zt_rows.specs.declared.rows.Row.TheVariants as rows
use Rattle.zt_rows.specs.declared.rows.Wait.{Wait}
use Rattle.zt_rows.specs.State.{State, put, change}
use Rattle.zt_rows.specs.Reads.{counters, packets}
use Rattle.zt_rows.specs.Tests.{any_kind, is_port, first, any_row, count_row}
use Rattle.zt_rows.specs.Settle.{push_packet}
use Rattle.zt_rows.specs.Handles.{◌>>=◌, check, handle, done, answered}
use Rattle.zt_rows.specs.ObjectCalls.{create}

abbrev pub port_create : State → ℕ → State × Reply
port_create S p = create kind.Port S p

-- ---- waits

-- the wait at the next number of these counters
abbrev pub add_wait : Counters → Wait → State → State
add_wait c w S = put (put S (key.Wait c.next_wait) (Some (rows.Wait w))) key.Counters (Some (rows.Counters (record c { next_wait = c.next_wait + 1 })))

-- a wait for any of the signals on what the handle names, or for its edge; its packet will come to the port under
-- this key
abbrev pub object_wait_async : State → ℕ → ℕ → ℕ → ℕ → ℕ → Bool → State × Reply
object_wait_async S p h port packet_key signals edge = answered S (do
  _ ← handle S p h any_kind 0x4000
  (held, _) ← handle S p port is_port 0x8
  Ok (add_wait (counters S) (record { process = p; handle = h; port = held.koid; key = packet_key; signals = record { 0 = signals }; edge = edge }) S, done))

-- ---- packets of users

abbrev pub is_user : Packet → Bool
is_user (packet.User _ _) = true
is_user _ = false

abbrev pub is_user_packet_of : ℕ → RowKey → Row → Bool
is_user_packet_of x (key.Packet p n) (rows.Packet k) = (p == x) && is_user k
is_user_packet_of x _ _ = false

-- how many packets of users are in the port
abbrev pub pending : State → ℕ → ℕ
pending S x = count_row (is_user_packet_of x) S

-- the most packets of users that a port holds
abbrev pub most_pending : ℕ
most_pending = 2048

-- a packet of the user's own at the end of the port
abbrev pub port_queue : State → ℕ → ℕ → ℕ → List ℕ → State × Reply
port_queue S p port packet_key bytes = answered S (do
  (held, o) ← handle S p port is_port 0x8
  _ ← check (nat_lt (pending S held.koid) most_pending) status.ShouldWait
  Ok (push_packet held.koid o (packet.User packet_key bytes) S, done))

-- the first packet of the port leaves it
abbrev pub port_wait : State → ℕ → ℕ → State × Reply
port_wait S p port = answered S (do
  (held, _) ← handle S p port is_port 0x4
  (n, k) ← ok_or (first (packets S held.koid)) status.TimedOut
  Ok (put S (key.Packet held.koid n) None, reply.Packet k))

-- ---- cancelling

-- a wait of this port, or the packet of one, that process p made on its handle h under this key
abbrev pub is_cancelled : ℕ → ℕ → ℕ → ℕ → RowKey → Row → Bool
is_cancelled x p h packet_key (key.Packet q n) (rows.Packet (packet.Signal l trigger seen process handle)) =
    (q == x) && (process == p) && (handle == h) && (l == packet_key)
is_cancelled x p h packet_key (key.Wait n) (rows.Wait w) =
    (w.port == x) && (w.process == p) && (w.handle == h) && (w.key == packet_key)
is_cancelled x p h packet_key _ _ = false

abbrev pub cancel : (RowKey → Row → Bool) → State → State
cancel cancelled S = change (λ k r. if cancelled k r then None else Some r) S

-- the caller's waits on this handle under this key, and their packets, leave the port
abbrev pub port_cancel : State → ℕ → ℕ → ℕ → ℕ → State × Reply
port_cancel S p port source packet_key = answered S (do
  (held, _) ← handle S p port is_port 0x8
  _ ← handle S p source any_kind 0x4000
  _ ← check (any_row (is_cancelled held.koid p source packet_key) S) status.NotFound
  Ok (cancel (is_cancelled held.koid p source packet_key) S, done))
