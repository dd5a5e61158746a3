-- The first packet of a port taken away, and nothing else.
use Rattle.std.specs.Prelude.{ℕ, Option, None, Some}
use Rattle.zt_rows.specs.declared.keys.RowKey.TheVariants as key
use Rattle.zt_rows.specs.declared.rows.Packet.{Packet}
use Rattle.zt_rows.specs.State.{State, put}
use Rattle.zt_rows.specs.Reads.{packets}
use Rattle.zt_rows.specs.Tests.{first}

abbrev pub without_packet : Option (ℕ × Packet) → State → ℕ → State
without_packet (Some (n, k)) S x = put S (key.Packet x n) None
without_packet None S x = S

-- the state without the first packet of the port; where there is none nothing changes
abbrev pub without_front : State → ℕ → State
without_front S x = without_packet (first (packets S x)) S x
