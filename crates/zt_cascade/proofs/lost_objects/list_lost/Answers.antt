use Rattle.std.proofs.Common.{arith}
use Rattle.zt_cascade.specs.ProofsOnly.LostObjects.{HasLost}
use Rattle.zt_cascade.proofs.LostLaws.{lost-longer}
use Rattle.zt_cascade.proofs.TouchedLaws.{so_far-end, so_far-next}
use Rattle.zt_cascade.proofs.lost_objects.list_lost.Goals as goal

pub loop-i-preserved : goal.loop-i-preserved
loop-i-preserved c =
    let s = c.args.step.now in
    so_far-next (HasLost s.beginning s.current) (lost-longer s.beginning s.current) s.touched c.loop-i.i c.touched_at-key.result.0 c.loop-i.list.items c.add_lost.new.list.items c.touched_at-key.ensures.key
    c.in_ok-add_lost.ensures.lost c.in_ok-add_lost.ensures.longer c.loop-i.invariant

pub returns-clause-lost : goal.returns-clause-lost
returns-clause-lost c =
    let s = c.args.step.now in
    so_far-end (HasLost s.beginning s.current) s.touched c.loop-i.i c.loop-i.list.items (omega (arith, c.loop-i-test.false, c.touched_len-i-end.ensures.len)) c.loop-i.invariant
