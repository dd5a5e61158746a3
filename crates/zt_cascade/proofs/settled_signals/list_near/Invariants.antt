use Rattle.zt_cascade.specs.ProofsOnly.NearObjects.{HasNear}
use Rattle.zt_cascade.proofs.TouchedLaws.{HoldsSoFar}
use Rattle.zt_cascade.proofs.settled_signals.list_near.Given as goal

abbrev pub invariant-loop-i : goal.invariant-loop-i
invariant-loop-i l = HoldsSoFar (HasNear l.step.beginning l.step.current) l.step.touched l.i l.list.items
