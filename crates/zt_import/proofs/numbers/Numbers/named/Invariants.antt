-- There is one for each handle so far.
use Rattle.std.proofs.Common.{◌≡◌, vec_len}
use Rattle.zt_import.proofs.numbers.Numbers.named.Given as goal

abbrev pub invariant-loop-place : goal.invariant-loop-place
invariant-loop-place l = vec_len l.named ≡ l.place
