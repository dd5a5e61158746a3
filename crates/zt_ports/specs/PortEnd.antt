-- One packet more at the end of a port, and nothing else.
use Rattle.std.specs.Prelude.{ℕ, Option, None, Some}
use Rattle.zt_rows.specs.declared.rows.ObjectRow.{ObjectRow}
use Rattle.zt_rows.specs.declared.rows.Packet.{Packet}
use Rattle.zt_rows.specs.State.{State}
use Rattle.zt_rows.specs.Reads.{object}
use Rattle.zt_rows.specs.Settle.{push_packet}

abbrev pub queued_to : Option ObjectRow → State → ℕ → Packet → State
queued_to (Some o) S x k = push_packet x o k S
queued_to None S x k = S

-- the packet at the end of the port; without the port nothing changes
abbrev pub queued : State → ℕ → Packet → State
queued S x k = queued_to (object S x) S x k
