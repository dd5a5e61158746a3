-- The bytes so far are those that the digits before them write.
use Rattle.std.proofs.Common.{◌≡◌, ◌*◌, take}
use Rattle.zt_text.specs.Bytes.{hex_bytes}
use Rattle.zt_text.proofs.bytes.fill.Given as goal

abbrev pub invariant-loop-place : goal.invariant-loop-place
invariant-loop-place l = take l.place l.bytes ≡ hex_bytes (take (2 * l.place) l.digits)
