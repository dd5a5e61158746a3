-- They are those of all values.
use Rattle.zt_logs.proofs.ListedLaws.{sent_all}
use Rattle.zt_logs.proofs.dispositions.dispositions_in.Goals as goal

pub returns : goal.returns
returns c = sent_all _ _ _ c.loop-value.invariant c.in_default.ensures.value
