use Rattle.zt_signals.specs.ProofsOnly.WaitGroups.{picks}
use Rattle.zt_signals.proofs.DroppingLaws.{next-none}
use Rattle.zt_signals.proofs.wait_group.next_picked.Goals as goal

pub returns-else-ever_had_waits : goal.returns-else-ever_had_waits
returns-else-ever_had_waits c = next-none (picks c.args.picked.now) c.args.step.now.current c.args.low (rw c.store.ensures at (c.ever_had_waits.ensures.none c.if-ever_had_waits.false))
