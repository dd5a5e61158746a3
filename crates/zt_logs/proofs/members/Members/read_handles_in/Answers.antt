-- They are those of all values.
use Rattle.zt_logs.proofs.ListedLaws.{read_all}
use Rattle.zt_logs.proofs.members.Members.read_handles_in.Goals as goal

pub returns : goal.returns
returns c = read_all _ _ _ c.loop-value.invariant c.in_default.ensures.value
