-- The items that are left become fewer.
use Rattle.std.proofs.Common.{length}
use Rattle.zt_logs.proofs.skipped.push_values.Given as goal

abbrev pub decreases-loop-item : goal.decreases-loop-item
decreases-loop-item l = length l.list
