-- What is seen so far, and the members that are left become fewer.
use Rattle.std.proofs.Common.{length}
use Rattle.zt_logs.specs.ProofsOnly.Tokens.{members_at}
use Rattle.zt_logs.specs.ProofsOnly.Walks.{IsSeenUpTo}
use Rattle.zt_logs.proofs.line_members.walked.Given as goal

abbrev pub invariant-loop-name : goal.invariant-loop-name
invariant-loop-name l = IsSeenUpTo (members_at l.fn.members) (members_at l.rest) l.seen

abbrev pub decreases-loop-name : goal.decreases-loop-name
decreases-loop-name l = length l.rest
