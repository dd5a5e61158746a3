-- The calls so far.
use Rattle.std.proofs.Common.{◌≡◌, take, map}
use Rattle.zt_import.specs.Trails.{not_asked}
use Rattle.zt_import.proofs.schedule.not_asked.Given as goal

abbrev pub invariant-loop-place : goal.invariant-loop-place
invariant-loop-place l = l.asked.items ≡ map not_asked (take l.place l.calls)
