-- So far so many moments are gathered from the end of the path, and there is room for the others.
use Rattle.std.proofs.Common.{◌≤◌, vec_capacity}
use Rattle.zt_history.proofs.NodeLaws.{IsGathered}
use Rattle.zt_history.proofs.moments.Moments.beyond.Given as goal

abbrev pub invariant-loop : goal.invariant-loop
invariant-loop l = record {
  gathered : IsGathered l.self.made l.fn.moment l.at l.way.items l.counter;
  room : l.count ≤ vec_capacity l.way;
}
