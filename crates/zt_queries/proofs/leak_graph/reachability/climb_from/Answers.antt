-- One link after another.
use Rattle.std.proofs.Common.{◌≡◌, suc, ◌+◌, ◌-◌, ◌||◌, sym, ◌∙◌, arith}
use Rattle.std.specs.Ordering.{nat_cmp}
use Rattle.std.specs.BTreeSet.{contains}
use Rattle.zt_rows.specs.Tests.{among}
use Rattle.zt_queries.specs.ProofsOnly.LeakGraph.{climbed, link_of, node}
use Rattle.zt_queries.proofs.ReachabilityLaws.{climb_starts, climb_goes, climb_ends, climb_last, apart_by, apart_when, none_by, none_unless}
use Rattle.zt_queries.proofs.leak_graph.reachability.climb_from.Goals as goal

pub loop-init : goal.loop-init
loop-init c =
    let same : c.args.koid - 0 ≡ c.args.koid = omega arith in
    λ y. climb_starts (λ x. link_of (node c.args.graph.now x)) c.args.koid c.link-at.result (c.args.koid - 0) y (contains nat_cmp c.args.set.now y) c.link-at.ensures same

pub loop-preserved : goal.loop-preserved
loop-preserved c =
    let same : c.koid.inside.0 ≡ c.args.koid = c.koid.view_is in
    let less : c.args.koid - c.loop.counter ≡ suc (c.args.koid - (c.loop.counter + 1)) = omega (arith, same, c.loop-test.true) in
    λ y.
    climb_goes (λ x. link_of (node c.args.graph.now x)) c.loop.at c.link-at-in-loop.result (c.args.koid - (c.loop.counter + 1)) (c.args.koid - c.loop.counter) y
    (contains nat_cmp c.loop.set y) (contains nat_cmp c.mark.new.set y) (contains nat_cmp c.args.set.now y || among (climbed c.args.graph.now c.args.koid) y)
    (apart_by c.loop.at c.eq.result c.eq.ensures c.if-eq.false) less (c.in_ok-mark.ensures y) c.link-at-in-loop.ensures (c.loop.invariant y)

pub returns-then-eq : goal.returns-then-eq
returns-then-eq c =
    λ y.
    sym (climb_ends (λ x. link_of (node c.args.graph.now x)) c.loop.at (c.args.koid - c.loop.counter) y (contains nat_cmp c.loop.set y) (none_by c.loop.at c.eq.result c.eq.ensures c.if-eq.true))
    ∙ c.loop.invariant y

pub returns-in_ok-mark-2 : goal.returns-in_ok-mark-2
returns-in_ok-mark-2 c =
    let same : c.koid.inside.0 ≡ c.args.koid = c.koid.view_is in
    let none : c.args.koid - c.loop.counter ≡ 0 = omega (arith, same, c.loop-test.false) in
    λ y.
    c.in_ok-mark-2.ensures y
    ∙ sym (climb_last (λ x. link_of (node c.args.graph.now x)) c.loop.at (c.args.koid - c.loop.counter) y (contains nat_cmp c.loop.set y) (apart_when c.loop.at c.ne.result c.ne.ensures c.if-ne.true) none)
    ∙ c.loop.invariant y

pub returns-else-ne : goal.returns-else-ne
returns-else-ne c =
    λ y.
    sym (climb_ends (λ x. link_of (node c.args.graph.now x)) c.loop.at (c.args.koid - c.loop.counter) y (contains nat_cmp c.loop.set y) (none_unless c.loop.at c.ne.result c.ne.ensures c.if-ne.false))
    ∙ c.loop.invariant y
