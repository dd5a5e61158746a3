-- What the keys up to here gave was taken in.
use Rattle.zt_queries.specs.ProofsOnly.NameSearch.{Widens, IsNameCount}
use Rattle.zt_queries.proofs.leak_graph.name_search.NameSearch.look_under.Given as goal

abbrev pub invariant-loop-key : goal.invariant-loop-key
invariant-loop-key l = record {
  wider : Widens l.store.state l.koid l.fn.self.ends.keys l.self.ends.keys;
  counted : IsNameCount l.store.state l.koid l.fn.self.ends.keys l.fn.self.messages.items l.fn.self.left → IsNameCount l.store.state l.koid l.self.ends.keys l.self.messages.items l.self.left;
}
