-- The port's row may be put before the packet that it gave a number to, and both before the wait that fired is taken away.
use Rattle.std.proofs.Common.{◌≡◌, ℕ, refl, ap, ◌∙◌}
use Rattle.std.specs.Prelude.{Option, Some}
use Rattle.zt_rows.specs.declared.keys.RowKey.TheVariants as key
use Rattle.zt_rows.specs.declared.rows.ObjectRow.{ObjectRow}
use Rattle.zt_rows.specs.declared.rows.Packet.{Packet}
use Rattle.zt_rows.specs.declared.rows.Row.{Row}
use Rattle.zt_rows.specs.declared.rows.Row.TheVariants as rows
use Rattle.zt_rows.specs.Settle.{push_packet}
use Rattle.zt_rows.specs.State.{State, put}
use Rattle.zt_rows.specs.Tests.{raised}
use Rattle.zt_rows.proofs.StateLaws.{put-swap}

-- the port's row before a packet
pub packet_last : (S : State) (x y n : ℕ) (port packet : Option Row) → put (put S (key.Object x) port) (key.Packet y n) packet ≡ put (put S (key.Packet y n) packet) (key.Object x) port
packet_last S x y n port packet = put-swap S (key.Object x) port (key.Packet y n) packet refl

-- port and packet before a wait
pub wait_last : (S : State) (x n : ℕ) (port : ObjectRow) (parcel : Packet) (wait : Option Row) → put (push_packet x port parcel S) (key.Wait n) wait ≡ push_packet x port parcel (put S (key.Wait n) wait)
wait_last S x n port parcel wait =
    let with_packet : State = put S (key.Packet x port.next) (Some (rows.Packet parcel)) in
    put-swap with_packet (key.Object x) (Some (rows.Object (raised port))) (key.Wait n) wait refl
    ∙ ap (λ U. put U (key.Object x) (Some (rows.Object (raised port)))) (put-swap S (key.Packet x port.next) (Some (rows.Packet parcel)) (key.Wait n) wait refl)
