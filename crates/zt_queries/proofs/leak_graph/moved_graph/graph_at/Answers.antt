-- Back from the position to the place, where both paths have one state.
use Rattle.std.proofs.Common.{◌≡◌, length, ◌∙◌, subst}
use Rattle.zt_queries.specs.ProofsOnly.LeakGraph.{IsGraph}
use Rattle.zt_queries.proofs.SinceLaws.{graph_starts}
use Rattle.zt_queries.proofs.FirstLeakLaws.{shared-state}
use Rattle.zt_queries.proofs.leak_graph.moved_graph.graph_at.Goals as goal

pub returns : goal.returns
returns c =
    let whole : c.len.result ≡ length c.args.ways.now.here.items = c.len.ensures ∙ c.args.ways.now.here.ok.0 in
    subst (IsGraph c.go_back.new.graph)
    (shared-state c.args.history.now c.args.ways.now.way.items c.args.ways.now.here.items c.args.ways.now.shared c.requires.ways c.args.place c.requires.shared)
    (c.in_ok-go_back.ensures
    (graph_starts c.args.history.now c.args.ways.now.way.items c.args.ways.now.here.items c.args.ways.now.shared c.requires.ways c.in_ok-graph.graph c.store.result.now.state c.len.result c.in_ok-graph.ensures c.store.ensures.state whole))
