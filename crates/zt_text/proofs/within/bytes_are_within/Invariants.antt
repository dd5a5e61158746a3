use Rattle.std.proofs.Common.{take, All}
use Rattle.zt_text.specs.Calls.{IsByte}
use Rattle.zt_text.proofs.within.bytes_are_within.Given as goal

abbrev pub invariant-loop-byte : goal.invariant-loop-byte
invariant-loop-byte l = All IsByte (take l.byte-index l.bytes)
