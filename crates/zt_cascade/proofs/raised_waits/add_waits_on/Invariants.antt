use Rattle.zt_index.specs.Criteria.{is_on, waits_where}
use Rattle.zt_cascade.specs.ProofsOnly.RaisedWaits.{IsLonger}
use Rattle.zt_cascade.proofs.WakingLaws.{ListsPassed, numbers_left}
use Rattle.zt_cascade.proofs.raised_waits.add_waits_on.Given as goal

abbrev pub invariant-waits : goal.invariant-waits
invariant-waits l = record {
  passed : ListsPassed (waits_where l.step.current (is_on l.process l.handle)) l.low l.list.items;
  longer : IsLonger l.fn.list.items l.list.items;
}

abbrev pub decreases-waits : goal.decreases-waits
decreases-waits l = numbers_left l.low
