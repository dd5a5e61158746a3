-- The digits so far write the number.
use Rattle.std.proofs.Common.{◌≡◌}
use Rattle.std.specs.Prelude.{take}
use Rattle.std.specs.Str.Parse.{AllDigits, digits_value}
use Rattle.zt_logs.proofs.numbers.written.Given as goal

abbrev pub invariant-loop-byte : goal.invariant-loop-byte
invariant-loop-byte l = AllDigits l.base (take l.byte-index l.digits) × (l.number ≡ digits_value l.base (take l.byte-index l.digits))
