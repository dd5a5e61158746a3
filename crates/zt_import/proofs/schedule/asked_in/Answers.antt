-- One step more.
use Rattle.std.proofs.Common.{◌≡◌, ◌+◌, suc, map, sym, ◌∙◌, ap, arith}
use Rattle.zt_import.specs.Trails.{not_asked, put_asked}
use Rattle.zt_import.proofs.AskedLaws.{asked-none, asked-next, asked-all}
use Rattle.zt_import.proofs.schedule.asked_in.Goals as goal

pub loop-place-init : goal.loop-place-init
loop-place-init c = c.in_ok-asked.ensures ∙ sym (asked-none c.args.calls.now (map not_asked c.args.calls.now) c.args.trail.now)

pub loop-place-preserved : goal.loop-place-preserved
loop-place-preserved c =
    let next : c.loop-place.place + 1 ≡ suc c.loop-place.place = omega arith in
    c.put_asked.ensures ∙ ap (λ xs. put_asked c.args.calls.now xs c.index-trail-place.result) c.loop-place.invariant
    ∙ sym (asked-next c.args.calls.now (map not_asked c.args.calls.now) c.args.trail.now c.loop-place.place (c.loop-place.place + 1) c.index-trail-place.result
    c.loop-place-test.true c.index-trail-place.is next)

pub returns : goal.returns
returns c =
    c.loop-place.invariant
    ∙ asked-all c.args.calls.now (map not_asked c.args.calls.now) c.args.trail.now c.loop-place.place (omega (arith, c.loop-place-test.false))
