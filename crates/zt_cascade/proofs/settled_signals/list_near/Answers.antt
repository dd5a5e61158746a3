use Rattle.std.proofs.Common.{arith}
use Rattle.zt_cascade.specs.ProofsOnly.NearObjects.{HasNear}
use Rattle.zt_cascade.proofs.NearLaws.{near-longer}
use Rattle.zt_cascade.proofs.TouchedLaws.{so_far-end, so_far-next}
use Rattle.zt_cascade.proofs.settled_signals.list_near.Goals as goal

pub loop-i-preserved : goal.loop-i-preserved
loop-i-preserved c =
    let s = c.args.step.now in
    so_far-next (HasNear s.beginning s.current) (near-longer s.beginning s.current) s.touched c.loop-i.i c.touched_at-key.result.0 c.loop-i.list.items c.add_near.new.list.items c.touched_at-key.ensures.key
    c.in_ok-add_near.ensures.near c.in_ok-add_near.ensures.longer c.loop-i.invariant

pub returns-clause-near : goal.returns-clause-near
returns-clause-near c =
    let s = c.args.step.now in
    so_far-end (HasNear s.beginning s.current) s.touched c.loop-i.i c.loop-i.list.items (omega (arith, c.loop-i-test.false, c.touched_len-i-end.ensures.len)) c.loop-i.invariant
