-- So far those that were gone over are taken out.
use Rattle.std.proofs.Common.{◌≡◌, ℕ, not, ◌&&◌, map, take}
use Rattle.std.specs.Ordering.{nat_cmp}
use Rattle.std.specs.BTreeSet.{contains}
use Rattle.zt_rows.specs.Tests.{among}
use Rattle.zt_look.proofs.unleaked_set.take_leaked.Given as goal

abbrev pub invariant-loop-leak : goal.invariant-loop-leak
invariant-loop-leak l = (x : ℕ) → contains nat_cmp l.set x ≡ (contains nat_cmp l.fn.set x && not (among (map (λ e. e.0) (take l.leak-index l.leaks)) x))
