-- What the next record shows, or an entry at the position.
use Rattle.std.proofs.Common.{◌≡◌, ◌<◌, length, sym, ◌∙◌, ap, arith}
use Rattle.zt_queries.specs.Leaks.{is_leaked}
use Rattle.zt_queries.proofs.FirstLeakLaws.{behind-here, shared-state, position-state}
use Rattle.zt_queries.proofs.leak_graph.unleaked_signs.is_unleaked_at.Goals as goal

pub returns-then-place-len : goal.returns-then-place-len
returns-then-place-len c = λ t.
    let below : c.args.place < length c.args.ways.now.here.items = omega (arith, c.if-place-len.true, c.len.ensures, c.args.ways.now.here.ok.0) in
    ap (λ S. is_leaked S c.args.koid)
    (sym (shared-state c.args.history.now c.args.ways.now.way.items c.args.ways.now.here.items c.args.ways.now.shared c.requires.ways c.args.place c.requires.shared))
    ∙ c.shows_unleaked.ensures t _
    (behind-here c.args.history.now c.args.ways.now.way.items c.args.ways.now.here.items c.args.ways.now.shared c.requires.ways c.args.place c.index.result.now below c.index.ensures)

pub returns-else-place-len : goal.returns-else-place-len
returns-else-place-len c = λ t.
    let whole : c.args.place ≡ length c.args.ways.now.here.items =
    omega (arith, c.if-place-len.false, c.len.ensures, c.args.ways.now.here.ok.0, c.requires.shared, c.requires.ways.fork.in_here) in
    ap (λ S. is_leaked S c.args.koid)
    (sym (shared-state c.args.history.now c.args.ways.now.way.items c.args.ways.now.here.items c.args.ways.now.shared c.requires.ways c.args.place c.requires.shared)
    ∙ position-state c.args.history.now c.args.ways.now.way.items c.args.ways.now.here.items c.args.ways.now.shared c.requires.ways c.args.place whole
    ∙ sym c.store.ensures.state)
    ∙ c.is_entered.ensures t
