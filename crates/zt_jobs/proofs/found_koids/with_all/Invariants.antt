use Rattle.std.proofs.Common.{◌≡◌, ◌||◌, ℕ, take}
use Rattle.std.specs.BTreeSet.{contains}
use Rattle.std.specs.Ordering.{nat_cmp}
use Rattle.zt_rows.specs.Tests.{among}
use Rattle.zt_jobs.proofs.found_koids.with_all.Given as goal

abbrev pub invariant-loop-number : goal.invariant-loop-number
invariant-loop-number l = (x : ℕ) → contains nat_cmp l.set x ≡ (among (take l.number-index l.numbers) x || contains nat_cmp l.fn.set x)
