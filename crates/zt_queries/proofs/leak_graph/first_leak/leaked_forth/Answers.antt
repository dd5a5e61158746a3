-- The copy is moved to the place.
use Rattle.zt_queries.proofs.SinceLaws.{same_graph}
use Rattle.zt_queries.proofs.leak_graph.first_leak.leaked_forth.Goals as goal

pub returns : goal.returns
returns c = c.in_ok-leaks.ensures _ (c.in_ok-go_forth.ensures (same_graph c.args.graph.now c.in_ok-other.other _ c.requires.drawn c.in_ok-other.ensures))
