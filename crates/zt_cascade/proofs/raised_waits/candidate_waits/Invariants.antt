use Rattle.zt_cascade.specs.ProofsOnly.RaisedWaits.{HasCandidates}
use Rattle.zt_cascade.proofs.TouchedLaws.{HoldsSoFar}
use Rattle.zt_cascade.proofs.raised_waits.candidate_waits.Given as goal

abbrev pub invariant-loop-i : goal.invariant-loop-i
invariant-loop-i l = HoldsSoFar (HasCandidates l.step.beginning l.step.current) l.step.touched l.i l.list.items
