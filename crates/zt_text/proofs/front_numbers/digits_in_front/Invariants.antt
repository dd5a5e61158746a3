use Rattle.std.proofs.Common.{◌≡◌, ◌<◌, ◌^◌, true, take}
use Rattle.std.specs.Char.{is_ascii_digit}
use Rattle.std.specs.List.{list_all}
use Rattle.std.specs.Str.Parse.{digits_value}
use Rattle.zt_text.proofs.front_numbers.digits_in_front.Given as goal

-- the bytes so far are digits, and the number is what they write
abbrev pub invariant-loop-place : goal.invariant-loop-place
invariant-loop-place l = record {
  all : list_all is_ascii_digit (take l.place l.bytes) ≡ true;
  value : l.number ≡ digits_value 10 (take l.place l.bytes);
  small : l.number < 10 ^ l.place;
}
