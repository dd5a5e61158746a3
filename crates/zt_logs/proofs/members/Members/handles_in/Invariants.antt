-- The handles so far are those of the values so far, and the values that are left become fewer.
use Rattle.std.proofs.Common.{length}
use Rattle.zt_logs.specs.ProofsOnly.Tokens.{items_at}
use Rattle.zt_logs.proofs.ListedLaws.{TakesNumbers}
use Rattle.zt_logs.proofs.members.Members.handles_in.Given as goal

abbrev pub invariant-loop-value : goal.invariant-loop-value
invariant-loop-value l = TakesNumbers (items_at l.fn.list) (items_at l.rest) l.handles.items

abbrev pub decreases-loop-value : goal.decreases-loop-value
decreases-loop-value l = length l.rest
