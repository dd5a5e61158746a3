-- So many moments both paths have.
use Rattle.std.proofs.Common.{length, ◌-◌, ◌≡◌, ◌≤◌, take}
use Rattle.zt_queries.proofs.path_pair.shared_by.Given as goal

abbrev pub invariant-loop-shared : goal.invariant-loop-shared
invariant-loop-shared l = record {
  in_way : l.shared ≤ length l.way;
  in_here : l.shared ≤ length l.here;
  same : take l.shared l.way ≡ take l.shared l.here;
}

abbrev pub decreases-loop-shared : goal.decreases-loop-shared
decreases-loop-shared l = length l.way - l.shared
