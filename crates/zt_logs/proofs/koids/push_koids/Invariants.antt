-- The members that are left become fewer.
use Rattle.std.proofs.Common.{length}
use Rattle.zt_logs.proofs.koids.push_koids.Given as goal

abbrev pub decreases-loop-name : goal.decreases-loop-name
decreases-loop-name l = length l.members
