-- Half of the places are passed over.
use Rattle.std.proofs.Common.{◌≤◌, sym, ◌∙◌, subst, arith}
use Rattle.zt_queries.specs.ProofsOnly.LeakGraph.{IsGraph}
use Rattle.zt_queries.proofs.FirstLeakLaws.{shared-state}
use Rattle.zt_queries.proofs.SinceLaws.{same_graph}
use Rattle.zt_queries.proofs.leak_graph.first_leak.first_leak_back.Goals as goal

pub loop-above-preserved-then-leaks : goal.loop-above-preserved-then-leaks
loop-above-preserved-then-leaks c =
    let low : c.between-middle.result ≤ c.args.ways.now.shared = omega (arith, c.between-middle.ensures.below, c.loop-above.invariant.high) in
    let drawn =
    subst (IsGraph c.go_back.new.graph)
    (shared-state c.args.history.now c.args.ways.now.way.items c.args.ways.now.here.items c.args.ways.now.shared c.requires.ways c.between-middle.result low)
    (c.in_ok-go_back.ensures
    (subst (IsGraph c.in_ok-other.other)
    (sym (shared-state c.args.history.now c.args.ways.now.way.items c.args.ways.now.here.items c.args.ways.now.shared c.requires.ways c.loop-above.above c.loop-above.invariant.high))
    (same_graph c.loop-above.graph c.in_ok-other.other _ c.loop-above.invariant.drawn c.in_ok-other.ensures))) in
    record {
      drawn = drawn;
      before = c.loop-above.invariant.before;
      after = sym (c.in_ok-leaks.ensures _ drawn) ∙ c.if-leaks.true;
      order = c.between-middle.ensures.above;
      high = low;
    }

pub loop-above-preserved : goal.loop-above-preserved
loop-above-preserved c =
    let low : c.between-middle.result ≤ c.args.ways.now.shared = omega (arith, c.between-middle.ensures.below, c.loop-above.invariant.high) in
    let drawn =
    subst (IsGraph c.go_back.new.graph)
    (shared-state c.args.history.now c.args.ways.now.way.items c.args.ways.now.here.items c.args.ways.now.shared c.requires.ways c.between-middle.result low)
    (c.in_ok-go_back.ensures
    (subst (IsGraph c.in_ok-other.other)
    (sym (shared-state c.args.history.now c.args.ways.now.way.items c.args.ways.now.here.items c.args.ways.now.shared c.requires.ways c.loop-above.above c.loop-above.invariant.high))
    (same_graph c.loop-above.graph c.in_ok-other.other _ c.loop-above.invariant.drawn c.in_ok-other.ensures))) in
    record {
      drawn = c.loop-above.invariant.drawn;
      before = sym (c.in_ok-leaks.ensures _ drawn) ∙ c.if-leaks.false;
      after = c.loop-above.invariant.after;
      order = c.between-middle.ensures.below;
      high = c.loop-above.invariant.high;
    }
