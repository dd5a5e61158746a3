use Rattle.std.proofs.Common.{◌≡◌, take}
use Rattle.zt_jobs.proofs.found_koids.koids_of.Given as goal

abbrev pub invariant-loop-number : goal.invariant-loop-number
invariant-loop-number l = l.koids.items ≡ take l.number-index l.numbers
