-- Whether each byte so far is a digit.
use Rattle.std.proofs.Common.{◌≡◌, take}
use Rattle.std.specs.List.{list_all}
use Rattle.zt_text.specs.Numbers.{is_hex_digit}
use Rattle.zt_text.proofs.bytes.is_hexadecimal.Given as goal

abbrev pub invariant-loop-byte : goal.invariant-loop-byte
invariant-loop-byte l = l.all ≡ list_all is_hex_digit (take l.byte-index l.field)
