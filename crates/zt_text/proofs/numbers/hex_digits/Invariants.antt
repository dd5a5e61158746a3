use Rattle.zt_text.proofs.NumberLemmas.{IsHexSoFar}
use Rattle.zt_text.proofs.numbers.hex_digits.Given as goal

abbrev pub invariant-loop-byte : goal.invariant-loop-byte
invariant-loop-byte l = IsHexSoFar l.bytes l.byte-index l.number l.sum
