use Rattle.std.proofs.Common.{◌≡◌, ◌++◌, ◌<◌, string_bytes, drop}
use Rattle.zt_look.specs.ProofsOnly.BitsLeft.{text_left}
use Rattle.zt_look.proofs.lines.names.put_bits.Given as goal

-- what is written, and what is to be written of the bits that are left
abbrev pub invariant-loop-bit : goal.invariant-loop-bit
invariant-loop-bit l = record {
  some : 0 < l.left;
  same : string_bytes l.text ++ text_left (drop l.bit-index l.names) l.left ≡ string_bytes l.fn.text ++ text_left l.names l.fn.bits;
}
