-- Forth, record by record.
use Rattle.std.proofs.Common.{◌≡◌, subst, arith}
use Rattle.zt_queries.specs.ProofsOnly.LeakGraph.{IsGraph}
use Rattle.zt_queries.specs.ProofsOnly.FirstLeak.{state_after}
use Rattle.zt_queries.proofs.SinceLaws.{forth_step}
use Rattle.zt_queries.proofs.leak_graph.moved_graph.go_forth.Goals as goal

pub loop-i-init : goal.loop-i-init
loop-i-init c = record { drawn = λ d. d; low = omega arith; high = c.requires.up }

pub loop-i-preserved : goal.loop-i-preserved
loop-i-preserved c = record {
  drawn = λ d.
      forth_step c.args.history.now c.args.ways.now.way.items c.args.ways.now.here.items c.args.ways.now.shared c.requires.ways c.loop-i.i c.index.result.now c.loop-i.graph c.turn.new.graph
      (omega (arith, c.loop-i.invariant.low, c.requires.beyond)) (omega (arith, c.loop-i-test.true, c.requires.within)) c.index.ensures (c.loop-i.invariant.drawn d) c.in_ok-turn.ensures;
  low = omega (arith, c.loop-i.invariant.low);
  high = omega (arith, c.loop-i-test.true);
}

pub returns : goal.returns
returns c =
    let done : c.loop-i.i ≡ c.args.to = omega (arith, c.loop-i-test.false, c.loop-i.invariant.high) in
    λ d. subst (λ n. IsGraph c.loop-i.graph (state_after c.args.history.now.tree.made c.args.ways.now.way.items n)) done (c.loop-i.invariant.drawn d)
