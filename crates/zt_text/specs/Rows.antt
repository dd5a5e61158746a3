-- Keys and rows whose numbers, masks and bytes are those that a key and a row can have.
use Rattle.std.specs.Prelude.{⊤}
use Rattle.std.specs.List.{All}
use Rattle.zt_rows.specs.declared.keys.RowKey.{RowKey}
use Rattle.zt_rows.specs.declared.keys.RowKey.TheVariants as key
use Rattle.zt_rows.specs.declared.rows.Held.{Held}
use Rattle.zt_rows.specs.declared.rows.Life.{Life}
use Rattle.zt_rows.specs.declared.rows.Life.TheVariants as life
use Rattle.zt_rows.specs.declared.rows.Packet.{Packet}
use Rattle.zt_rows.specs.declared.rows.Packet.TheVariants as packet
use Rattle.zt_rows.specs.declared.rows.Row.{Row}
use Rattle.zt_rows.specs.declared.rows.Row.TheVariants as rows
use Rattle.zt_text.specs.Calls.{IsByte, IsHandle, IsMask, IsKey, IsCode}

abbrev pub IsKeyWithin : RowKey → Type 0
IsKeyWithin key.Counters = ⊤
IsKeyWithin (key.Object koid) = IsKey koid
IsKeyWithin (key.Entry process handle) = IsKey process × IsHandle handle
IsKeyWithin (key.Msg endpoint number) = IsKey endpoint × IsKey number
IsKeyWithin (key.Packet port number) = IsKey port × IsKey number
IsKeyWithin (key.Wait number) = IsKey number

abbrev pub IsHeldWithin : Held → Type 0
IsHeldWithin held = IsKey held.koid × IsMask held.rights.0

abbrev pub IsLifeWithin : Life → Type 0
IsLifeWithin life.Live = ⊤
IsLifeWithin life.Killed = ⊤
IsLifeWithin (life.Exited code) = IsCode code

abbrev pub IsPacketWithin : Packet → Type 0
IsPacketWithin (packet.User number bytes) = IsKey number × All IsByte bytes
IsPacketWithin (packet.Signal number trigger observed process handle) =
    IsKey number × IsMask trigger.0 × IsMask observed.0 × IsKey process × IsHandle handle

abbrev pub IsRowWithin : Row → Type 0
IsRowWithin (rows.Counters counters) = IsKey counters.next_koid × IsKey counters.next_wait
IsRowWithin (rows.Object object) =
    IsMask object.signals.0 × IsKey object.link × IsLifeWithin object.life × IsKey object.next × IsKey object.critical
IsRowWithin (rows.Entry held) = IsHeldWithin held
IsRowWithin (rows.Msg message) = All IsByte message.bytes × All IsHeldWithin message.handles
IsRowWithin (rows.Packet held) = IsPacketWithin held
IsRowWithin (rows.Wait wait) = IsKey wait.process × IsHandle wait.handle × IsKey wait.port × IsKey wait.key × IsMask wait.signals.0
