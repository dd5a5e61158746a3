-- The moment that follows the last sign, or the place that is found behind it.
use Rattle.std.proofs.Common.{◌<◌, ◌+◌, sym, ◌∙◌, arith}
use Rattle.zt_queries.proofs.FirstLeakLaws.{leaked-behind, leaks-later}
use Rattle.zt_queries.proofs.leak_graph.first_leak.first_leak_within.Goals as goal

pub leaked_back-requires-clause-down : goal.leaked_back-requires-clause-down
leaked_back-requires-clause-down c =
    let later : c.unleaked_before-low.result < c.args.place =
    leaks-later c.args.history.now c.args.ways.now.way.items c.args.ways.now.here.items c.args.ways.now.shared c.requires.ways c.args.koid c.unleaked_before-low.result c.args.place
    c.unleaked_before-low.ensures.low c.unleaked_before-low.ensures.before c.requires.leaked in
    omega (arith, later)

pub returns-then-soon : goal.returns-then-soon
returns-then-soon c =
    let later : c.unleaked_before-low.result < c.args.place =
    leaks-later c.args.history.now c.args.ways.now.way.items c.args.ways.now.here.items c.args.ways.now.shared c.requires.ways c.args.koid c.unleaked_before-low.result c.args.place
    c.unleaked_before-low.ensures.low c.unleaked_before-low.ensures.before c.requires.leaked in
    leaked-behind c.args.history.now c.args.ways.now.way.items c.args.ways.now.here.items c.args.ways.now.shared c.requires.ways c.args.koid c.unleaked_before-low.result c.index.result.now
    (record {
      within = omega (arith, later, c.requires.shared, c.requires.ways.fork.in_way);
      before = c.unleaked_before-low.ensures.before;
      after = sym c.in_ok-soon.ensures ∙ c.if-soon.true;
    })
    c.index.ensures

pub first_leak_back-requires-clause-order : goal.first_leak_back-requires-clause-order
first_leak_back-requires-clause-order c =
    let later : c.unleaked_before-low.result < c.args.place =
    leaks-later c.args.history.now c.args.ways.now.way.items c.args.ways.now.here.items c.args.ways.now.shared c.requires.ways c.args.koid c.unleaked_before-low.result c.args.place
    c.unleaked_before-low.ensures.low c.unleaked_before-low.ensures.before c.requires.leaked in
    leaks-later c.args.history.now c.args.ways.now.way.items c.args.ways.now.here.items c.args.ways.now.shared c.requires.ways c.args.koid (c.unleaked_before-low.result + 1) c.args.place
    (omega (arith, later)) (sym c.in_ok-soon.ensures ∙ c.if-soon.false) c.requires.leaked

pub returns : goal.returns
returns c =
    leaked-behind c.args.history.now c.args.ways.now.way.items c.args.ways.now.here.items c.args.ways.now.shared c.requires.ways c.args.koid c.in_ok-first_leak.first_leak c.index-2.result.now c.in_ok-first_leak.ensures c.index-2.ensures
