-- The steps so far have asked the calls.
use Rattle.std.proofs.Common.{◌≡◌, take, map}
use Rattle.zt_import.specs.Trails.{asked_after, not_asked}
use Rattle.zt_import.proofs.schedule.asked_in.Given as goal

abbrev pub invariant-loop-place : goal.invariant-loop-place
invariant-loop-place l = l.asked.items ≡ asked_after l.calls (map not_asked l.calls) (take l.place l.trail)
