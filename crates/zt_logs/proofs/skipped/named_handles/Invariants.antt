-- The members that are left become fewer.
use Rattle.std.proofs.Common.{length}
use Rattle.zt_logs.proofs.skipped.named_handles.Given as goal

abbrev pub decreases-loop-name : goal.decreases-loop-name
decreases-loop-name l = length l.rest
