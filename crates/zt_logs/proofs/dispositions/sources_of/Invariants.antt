-- The handles so far are those of the handles so far.
use Rattle.std.proofs.Common.{◌≡◌, take}
use Rattle.zt_logs.specs.LineCalls.{sources_of}
use Rattle.zt_logs.proofs.dispositions.sources_of.Given as goal

abbrev pub invariant-loop-place : goal.invariant-loop-place
invariant-loop-place l = l.handles.items ≡ sources_of (take l.place l.dispositions)
