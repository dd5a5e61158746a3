-- The copy is moved to the place.
use Rattle.std.proofs.Common.{◌≤◌, sym, subst, arith}
use Rattle.zt_queries.specs.ProofsOnly.LeakGraph.{IsGraph}
use Rattle.zt_queries.proofs.FirstLeakLaws.{shared-state}
use Rattle.zt_queries.proofs.SinceLaws.{same_graph}
use Rattle.zt_queries.proofs.leak_graph.first_leak.leaked_back.Goals as goal

pub returns : goal.returns
returns c =
    let low : c.args.to ≤ c.args.ways.now.shared = omega (arith, c.requires.down, c.requires.shared) in
    c.in_ok-leaks.ensures _
    (subst (IsGraph c.go_back.new.graph)
    (shared-state c.args.history.now c.args.ways.now.way.items c.args.ways.now.here.items c.args.ways.now.shared c.requires.ways c.args.to low)
    (c.in_ok-go_back.ensures
    (subst (IsGraph c.in_ok-other.other)
    (sym (shared-state c.args.history.now c.args.ways.now.way.items c.args.ways.now.here.items c.args.ways.now.shared c.requires.ways c.args.from c.requires.shared))
    (same_graph c.args.graph.now c.in_ok-other.other _ c.requires.drawn c.in_ok-other.ensures))))
