-- A moment that is later than this one is led to as its parent is; one that is not is led to by itself alone.
use Rattle.std.proofs.Common.{◌≤◌, ◌<◌, ap, ◌∙◌, arith}
use Rattle.std.proofs.lemmas.Bool.Decides.{nat_tests}
use Rattle.zt_queries.specs.LaterMoments.{leads_to}
use Rattle.zt_look.proofs.AliveLaws.{leads-met, leads-up}
use Rattle.zt_look.proofs.alive_list.leads_to.Goals as goal

pub loop-here-preserved : goal.loop-here-preserved
loop-here-preserved c =
    let later : c.args.moment < c.loop-here.here = grind (arith, nat_tests, c.loop-here-test.ensures) in
    ap (leads_to c.args.history.now.tree.made c.args.moment) c.parent_of-here.ensures
    ∙ leads-up c.args.history.now.tree.made c.limits.ensures.tree.moments.falls c.args.moment c.loop-here.here later
    ∙ c.loop-here.invariant

pub returns : goal.returns
returns c =
    let low : c.loop-here.here ≤ c.args.moment = grind (arith, nat_tests, c.loop-here-test.ensures) in
    c.eq.ensures
    ∙ leads-met c.args.history.now.tree.made c.limits.ensures.tree.moments.falls c.args.moment c.loop-here.here low
    ∙ c.loop-here.invariant
