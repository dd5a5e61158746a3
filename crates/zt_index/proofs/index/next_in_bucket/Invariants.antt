use Rattle.std.proofs.Common.{length}
use Rattle.zt_index.specs.ProofsOnly.IndexInvariant.{meets_criterion}
use Rattle.zt_index.proofs.IndexLaws.{IsPassed, left_above}
use Rattle.zt_index.proofs.index.next_in_bucket.Given as goal

abbrev pub invariant-numbers : goal.invariant-numbers
invariant-numbers l = IsPassed (meets_criterion l.cells.state l.criterion) l.fn.low l.at

abbrev pub decreases-numbers : goal.decreases-numbers
decreases-numbers l = left_above (length l.chain) l.at
