use Rattle.std.proofs.Common.{◌≡◌, vec_len}
use Rattle.zt_shared.proofs.account.Blank.new.Given as goal

abbrev pub invariant-loop : goal.invariant-loop
invariant-loop g l = vec_len l.cells ≡ l.counter
