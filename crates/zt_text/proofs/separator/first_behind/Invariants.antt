use Rattle.zt_text.specs.ProofsOnly.Cut.{IsClear}
use Rattle.zt_text.proofs.separator.first_behind.Given as goal

abbrev pub invariant-loop-place : goal.invariant-loop-place
invariant-loop-place l = IsClear l.separator l.bytes 0 l.place
