-- The packets of waits that are cancelled. Used by proofs only.
use Rattle.std.specs.Prelude.{ℕ, Bool, false, ◌==◌, ◌&&◌, if◌then◌else◌, Option, None, Some}
use Rattle.zt_rows.specs.declared.keys.RowKey.{RowKey}
use Rattle.zt_rows.specs.declared.keys.RowKey.TheVariants as key
use Rattle.zt_rows.specs.declared.rows.Packet.{Packet}
use Rattle.zt_rows.specs.declared.rows.Packet.TheVariants as packet
use Rattle.zt_rows.specs.declared.rows.Row.{Row}
use Rattle.zt_rows.specs.declared.rows.Row.TheVariants as rows

-- the news of a wait that process p made on its handle h under the key
abbrev pub is_news_of : ℕ → ℕ → ℕ → Packet → Bool
is_news_of p h packet_key (packet.Signal l trigger seen process handle) = (process == p) && (handle == h) && (l == packet_key)
is_news_of p h packet_key _ = false

-- such a packet in the port x
abbrev pub is_cancelled_packet : ℕ → ℕ → ℕ → ℕ → RowKey → Row → Bool
is_cancelled_packet x p h packet_key (key.Packet y n) (rows.Packet k) = (y == x) && is_news_of p h packet_key k
is_cancelled_packet x p h packet_key _ _ = false

-- what is left of a row when they go
abbrev pub without_cancelled : ℕ → ℕ → ℕ → ℕ → RowKey → Row → Option Row
without_cancelled x p h packet_key k r = if is_cancelled_packet x p h packet_key k r then None else Some r
