use Rattle.std.proofs.Common.{sym, ◌∙◌}
use Rattle.zt_cascade.proofs.ReleasingLaws.{found-free, found-held}
use Rattle.zt_cascade.proofs.worklist.unsupported.Goals as goal

pub returns-then-is_free : goal.returns-then-is_free
returns-then-is_free c = (rw c.store.ensures at c.object.ensures) ∙ found-free c.args.step.now.current c.args.koid (sym c.is_free.ensures ∙ c.if-is_free.true)

pub returns-else-is_free : goal.returns-else-is_free
returns-else-is_free c = found-held c.args.step.now.current c.args.koid (sym c.is_free.ensures ∙ c.if-is_free.false)
