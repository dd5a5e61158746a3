-- What is listed, with what is left, is what all tell.
use Rattle.std.proofs.Common.{◌≡◌, ◌++◌, length, map}
use Rattle.zt_look.specs.ProofsOnly.CountedCalls.{count_told}
use Rattle.zt_look.proofs.call_counts.listed.Given as goal

abbrev pub invariant-counts : goal.invariant-counts
invariant-counts l = l.list.items ++ map count_told l.left.entries ≡ map count_told l.fn.counts.entries

abbrev pub decreases-counts : goal.decreases-counts
decreases-counts l = length l.left.entries
