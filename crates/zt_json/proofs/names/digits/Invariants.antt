use Rattle.std.proofs.Common.{◌≡◌, ◌<◌, ◌^◌, true, take}
use Rattle.std.specs.Char.{is_ascii_digit}
use Rattle.std.specs.List.{list_all}
use Rattle.std.specs.Str.Parse.{digits_value}
use Rattle.zt_json.proofs.names.digits.Given as goal

-- the bytes so far are digits, and the number is what they write
abbrev pub invariant-loop-byte : goal.invariant-loop-byte
invariant-loop-byte l = record {
  all : list_all is_ascii_digit (take l.byte-index l.bytes) ≡ true;
  value : l.number ≡ digits_value 10 (take l.byte-index l.bytes);
  fits : l.number < 2 ^ 64;
}
