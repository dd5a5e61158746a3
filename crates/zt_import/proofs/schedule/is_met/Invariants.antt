-- None of the calls so far has made a moment at which it is met.
use Rattle.std.proofs.Common.{◌≡◌, take, false}
use Rattle.zt_import.specs.Schedule.{is_met}
use Rattle.zt_import.proofs.schedule.is_met.Given as goal

abbrev pub invariant-loop-place : goal.invariant-loop-place
invariant-loop-place l = (l.taken ≡ l.fn.taken) × (is_met l.taken.tree.made l.port l.line l.waited l.sought (take l.place l.asked) ≡ false)
