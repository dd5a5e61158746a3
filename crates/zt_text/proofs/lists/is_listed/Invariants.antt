use Rattle.std.proofs.Common.{◌≤◌}
use Rattle.zt_text.specs.ProofsOnly.Cut.{length_left}
use Rattle.zt_text.proofs.ListLemmas.{IsListedSoFar}
use Rattle.zt_text.proofs.lists.is_listed.Given as goal

-- so many handles stand in front of those of the elements left
abbrev pub invariant-loop-left : goal.invariant-loop-left
invariant-loop-left l = record {
  so_far : IsListedSoFar l.field l.count l.left;
  few : l.count ≤ 64;
}

abbrev pub decreases-loop-left : goal.decreases-loop-left
decreases-loop-left l = length_left l.left
