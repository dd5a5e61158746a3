use Rattle.zt_index.specs.Criteria.{is_at, waits_where}
use Rattle.zt_cascade.specs.ProofsOnly.RaisedWaits.{IsLonger}
use Rattle.zt_cascade.proofs.WakingLaws.{ListsPassed, numbers_left}
use Rattle.zt_cascade.proofs.raised_waits.add_waits_at.Given as goal

abbrev pub invariant-waits : goal.invariant-waits
invariant-waits l = record {
  passed : ListsPassed (waits_where l.step.current (is_at l.step.current l.koid)) l.low l.list.items;
  longer : IsLonger l.fn.list.items l.list.items;
}

abbrev pub decreases-waits : goal.decreases-waits
decreases-waits l = numbers_left l.low
