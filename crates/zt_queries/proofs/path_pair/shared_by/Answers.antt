-- The paths are gone along as long as their moments are the same.
use Rattle.std.proofs.Common.{◌≡◌, get_or, refl, sym, ap, ◌∙◌, arith}
use Rattle.std.proofs.lemmas.Bool.{eqb-true}
use Rattle.std.proofs.lemmas.List.{take_more_same}
use Rattle.zt_queries.proofs.ForkLaws.{fork-apart, fork-past, fork-whole}
use Rattle.zt_queries.proofs.path_pair.shared_by.Goals as goal

pub loop-shared-init : goal.loop-shared-init
loop-shared-init c = record { in_way = omega arith; in_here = omega arith; same = refl }

pub loop-shared-preserved : goal.loop-shared-preserved
loop-shared-preserved c =
    let e : c.index-way-shared.result ≡ c.index-here-shared.result = eqb-true c.index-way-shared.result c.index-here-shared.result (sym c.eq.ensures ∙ c.if-eq.true) in
    record {
      in_way = omega (arith, c.loop-shared-test.true);
      in_here = omega (arith, c.if-shared-here.true);
      same =
          take_more_same c.args.way.now c.args.here.now c.loop-shared.shared c.index-way-shared.result c.loop-shared-test.true c.if-shared-here.true c.loop-shared.invariant.same
          (sym c.index-way-shared.is ∙ e ∙ c.index-here-shared.is ∙ ap (get_or c.args.here.now c.loop-shared.shared) (sym e));
    }

pub returns-else-eq : goal.returns-else-eq
returns-else-eq c =
    fork-apart c.args.way.now c.args.here.now c.loop-shared.shared c.loop-shared.invariant.in_way c.loop-shared.invariant.in_here c.loop-shared.invariant.same
    c.index-way-shared.result c.index-here-shared.result c.loop-shared-test.true c.if-shared-here.true c.index-way-shared.is c.index-here-shared.is (sym c.eq.ensures ∙ c.if-eq.false)

pub returns-else-shared-here : goal.returns-else-shared-here
returns-else-shared-here c =
    fork-past c.args.way.now c.args.here.now c.loop-shared.shared c.loop-shared.invariant.in_way c.loop-shared.invariant.in_here c.loop-shared.invariant.same c.if-shared-here.false

pub returns-after-loop-shared : goal.returns-after-loop-shared
returns-after-loop-shared c =
    fork-whole c.args.way.now c.args.here.now c.loop-shared.shared c.loop-shared.invariant.in_way c.loop-shared.invariant.in_here c.loop-shared.invariant.same c.loop-shared-test.false
