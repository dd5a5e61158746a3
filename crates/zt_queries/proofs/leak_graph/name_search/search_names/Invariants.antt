-- So many of them were looked at.
use Rattle.std.proofs.Common.{◌≡◌, take}
use Rattle.zt_history.specs.Tree.{state_at}
use Rattle.zt_queries.specs.ProofsOnly.NameSearch.{IsPartSearch, last_of_children, last_of_names}
use Rattle.zt_queries.proofs.leak_graph.name_search.search_names.Given as goal

abbrev pub invariant-loop-place : goal.invariant-loop-place
invariant-loop-place l = record {
  part : IsPartSearch (state_at l.history.tree.made l.history.position) l.koid l.search.ends.keys l.place;
  names : l.names ≡ last_of_names l.history.tree.made l.history.position (take l.place l.search.ends.keys);
  children : l.children ≡ last_of_children l.history.tree.made l.history.position (take l.place l.search.ends.keys);
}
