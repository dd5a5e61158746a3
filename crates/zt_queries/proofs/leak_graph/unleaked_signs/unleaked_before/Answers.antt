-- At a place that a record shows, or at the opening, it is not leaked.
use Rattle.std.proofs.Common.{◌<◌, ◌≤◌, ◌-◌, length, sym, ◌∙◌, ap, arith}
use Rattle.zt_queries.specs.Leaks.{is_leaked}
use Rattle.zt_queries.proofs.FirstLeakLaws.{behind-here, shared-state, first-unleaked}
use Rattle.zt_queries.proofs.leak_graph.unleaked_signs.unleaked_before.Goals as goal

pub returns-then-shows_unleaked-clause-before : goal.returns-then-shows_unleaked-clause-before
returns-then-shows_unleaked-clause-before c =
    let below : c.loop-i.i - 1 < length c.args.ways.now.here.items = omega (arith, c.loop-i-test.true, c.loop-i.invariant, c.requires.shared, c.requires.ways.fork.in_here) in
    let low : c.loop-i.i - 1 ≤ c.args.ways.now.shared = omega (arith, c.loop-i.invariant, c.requires.shared) in
    ap (λ S. is_leaked S c.args.koid)
    (sym (shared-state c.args.history.now c.args.ways.now.way.items c.args.ways.now.here.items c.args.ways.now.shared c.requires.ways (c.loop-i.i - 1) low))
    ∙ c.shows_unleaked.ensures c.if-shows_unleaked.true _
    (behind-here c.args.history.now c.args.ways.now.way.items c.args.ways.now.here.items c.args.ways.now.shared c.requires.ways (c.loop-i.i - 1) c.index.result.now below c.index.ensures)

pub returns-clause-before : goal.returns-clause-before
returns-clause-before c = first-unleaked c.args.history.now.tree.made c.args.ways.now.way.items c.args.koid
