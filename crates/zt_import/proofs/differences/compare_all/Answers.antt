-- One step more.
use Rattle.std.proofs.Common.{◌≡◌, ◌+◌, suc, arith}
use Rattle.zt_import.proofs.ImportLaws.{compared-step, compared-whole}
use Rattle.zt_import.proofs.differences.compare_all.Goals as goal

pub loop-place-preserved : goal.loop-place-preserved
loop-place-preserved c =
    let next : c.loop-place.place + 1 ≡ suc c.loop-place.place = omega arith in
    compared-step c.args.calls.now c.args.taken.now c.loop-place.taken c.compare_step.new.taken c.in-Ok.asked.items c.as_slice.result.now
    c.args.left.now c.loop-place.place (c.loop-place.place + 1) c.index-left-place.result c.loop-place.compared
    c.compare_step.new.compared c.loop-place.invariant.0 c.compare_step.ensures.same c.as_slice.ensures.value
    c.loop-place-test.true (grind (arith, c.well_formed)) c.index-left-place.is next c.in-Ok-compare_step.ensures.differences c.loop-place.invariant.1

pub returns-clause-differences : goal.returns-clause-differences
returns-clause-differences c =
    compared-whole c.args.calls.now c.args.taken.now c.loop-place.taken c.in-Ok.asked.items c.trail.result.now c.args.left.now c.loop-place.place
    c.loop-place.compared c.loop-place.invariant.0 c.trail.ensures (omega (arith, c.loop-place-test.false)) c.in-Ok.ensures c.requires.left
    c.loop-place.invariant.1
