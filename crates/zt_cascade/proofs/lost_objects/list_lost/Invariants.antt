use Rattle.zt_cascade.specs.ProofsOnly.LostObjects.{HasLost}
use Rattle.zt_cascade.proofs.TouchedLaws.{HoldsSoFar}
use Rattle.zt_cascade.proofs.lost_objects.list_lost.Given as goal

abbrev pub invariant-loop-i : goal.invariant-loop-i
invariant-loop-i l = HoldsSoFar (HasLost l.step.beginning l.step.current) l.step.touched l.i l.list.items
