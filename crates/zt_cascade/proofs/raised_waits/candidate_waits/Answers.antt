use Rattle.std.proofs.Common.{arith}
use Rattle.zt_cascade.specs.ProofsOnly.RaisedWaits.{HasCandidates}
use Rattle.zt_cascade.proofs.TouchedLaws.{so_far-end, so_far-next}
use Rattle.zt_cascade.proofs.WakingLaws.{met-candidate_waits, candidate_waits-longer}
use Rattle.zt_cascade.proofs.raised_waits.candidate_waits.Goals as goal

pub loop-i-preserved : goal.loop-i-preserved
loop-i-preserved c =
    let s = c.args.step.now in
    so_far-next (HasCandidates s.beginning s.current) (candidate_waits-longer s.beginning s.current) s.touched c.loop-i.i c.touched_at-key.result.0 c.loop-i.list.items c.add_candidates.new.list.items c.touched_at-key.ensures.key
    c.in_ok-add_candidates.ensures.candidates c.in_ok-add_candidates.ensures.longer c.loop-i.invariant

pub returns : goal.returns
returns c =
    let s = c.args.step.now in
    met-candidate_waits s c.loop-i.list.items c.requires c.touched_len-i-end.ensures.others
    (so_far-end (HasCandidates s.beginning s.current) s.touched c.loop-i.i c.loop-i.list.items (omega (arith, c.loop-i-test.false, c.touched_len-i-end.ensures.len)) c.loop-i.invariant)
