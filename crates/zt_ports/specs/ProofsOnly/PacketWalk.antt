-- What a walk over the packets of one port looks at. This project's own form. Used by proofs only.
use Rattle.std.specs.Prelude.{ℕ, ◌==◌, if◌then◌else◌, Option, None, Some}
use Rattle.zt_rows.specs.declared.keys.RowKey.{RowKey}
use Rattle.zt_rows.specs.declared.keys.RowKey.TheVariants as key

-- the key of a packet of the port x
abbrev pub packet_key : ℕ → ℕ → RowKey
packet_key x n = key.Packet x n

-- the number of the packet, where it is one of the port x
abbrev pub packet_index : ℕ → RowKey → Option ℕ
packet_index x (key.Packet y n) = if y == x then Some n else None
packet_index x _ = None
