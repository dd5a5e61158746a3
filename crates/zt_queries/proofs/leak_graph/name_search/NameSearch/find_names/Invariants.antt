-- What was found is taken in.
use Rattle.zt_history.specs.Tree.{state_at}
use Rattle.zt_queries.specs.ProofsOnly.NameSearch.{Widens, IsNameCount}
use Rattle.zt_queries.proofs.leak_graph.name_search.NameSearch.find_names.Given as goal

abbrev pub invariant-loop : goal.invariant-loop
invariant-loop l = record {
  wider : Widens (state_at l.history.tree.made l.history.position) l.koid l.fn.self.ends.keys l.self.ends.keys;
  counted : IsNameCount (state_at l.history.tree.made l.history.position) l.koid l.self.ends.keys l.self.messages.items l.self.left;
}
