-- The closes so far are those of the handles so far.
use Rattle.std.proofs.Common.{◌≡◌, take}
use Rattle.zt_logs.proofs.PartLaws.{each_close}
use Rattle.zt_logs.proofs.line_calls.closes_of.Given as goal

abbrev pub invariant-loop-place : goal.invariant-loop-place
invariant-loop-place l = l.parts.items ≡ each_close (take l.place l.handles)
