use Rattle.std.proofs.Common.{length}
use Rattle.std.specs.BTreeSet.{contains}
use Rattle.std.specs.Ordering.{nat_cmp}
use Rattle.zt_jobs.proofs.MemberLaws.{IsListed}
use Rattle.zt_jobs.proofs.found_koids.by_koid.Given as goal

abbrev pub invariant-koids : goal.invariant-koids
invariant-koids l = IsListed l.list.items (contains nat_cmp l.left) (contains nat_cmp l.fn.set)

abbrev pub decreases-koids : goal.decreases-koids
decreases-koids l = length l.left.keys
