-- The lines of one step more.
use Rattle.std.proofs.Common.{◌≡◌, ◌+◌, suc, string_bytes, arith}
use Rattle.zt_import.proofs.TextLaws.{trail-none, trail-more, trail-whole}
use Rattle.zt_import.proofs.session_lines.put_trail.Goals as goal

pub loop-place-init : goal.loop-place-init
loop-place-init c = trail-none c.args.history.now.tree.made c.args.trail.now (string_bytes c.args.text.now)

pub loop-place-preserved : goal.loop-place-preserved
loop-place-preserved c =
    let next : c.loop-place.place + 1 ≡ suc c.loop-place.place = omega arith in
    trail-more c.args.history.now.tree.made c.args.trail.now c.loop-place.place (c.loop-place.place + 1) c.index-trail-place.result
    (string_bytes c.args.text.now) (string_bytes c.loop-place.text) (string_bytes c.put_step.new.text) c.loop-place-test.true
    c.index-trail-place.is next c.loop-place.invariant c.in_ok-put_step.ensures

pub returns : goal.returns
returns c =
    trail-whole c.args.history.now.tree.made c.args.trail.now c.loop-place.place (string_bytes c.args.text.now) (string_bytes c.loop-place.text)
    (omega (arith, c.loop-place-test.false)) c.loop-place.invariant
