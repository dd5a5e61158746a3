-- What four bytes hold: koids of a history, and places in its lists. Used by proofs only.
use Rattle.std.specs.Prelude.{ℕ}

-- how many numbers there are of four bytes
abbrev pub four_byte_numbers : ℕ
four_byte_numbers = 4294967296
