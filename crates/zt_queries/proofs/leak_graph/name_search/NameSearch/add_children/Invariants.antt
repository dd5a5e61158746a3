-- The children that were passed were added.
use Rattle.zt_queries.specs.ProofsOnly.NameSearch.{Widens}
use Rattle.zt_queries.proofs.NameSearchLaws.{ArePassedIn, left_above}
use Rattle.zt_queries.proofs.leak_graph.name_search.NameSearch.add_children.Given as goal

abbrev pub invariant-loop-task : goal.invariant-loop-task
invariant-loop-task l = record {
  wider : Widens l.store.state l.koid l.fn.self.ends.keys l.self.ends.keys;
  passed : ArePassedIn l.store.state l.koid l.low l.self.ends.keys;
}

abbrev pub decreases-loop-task : goal.decreases-loop-task
decreases-loop-task l = left_above l.low
