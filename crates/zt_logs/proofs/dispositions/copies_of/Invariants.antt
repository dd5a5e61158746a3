-- The calls so far are those of the handles so far.
use Rattle.std.proofs.Common.{◌≡◌, take}
use Rattle.zt_logs.specs.LineCalls.{copies_of}
use Rattle.zt_logs.proofs.dispositions.copies_of.Given as goal

abbrev pub invariant-loop-place : goal.invariant-loop-place
invariant-loop-place l = l.parts.items ≡ copies_of (take l.place l.dispositions)
