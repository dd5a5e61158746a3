use Rattle.std.proofs.Common.{refl, sym}
use Rattle.zt_calls.proofs.TakingLaws.{absent-stays}
use Rattle.zt_calls.proofs.taken_handles.take_out_if_there.Goals as goal

pub returns-in-None-clause-ok : goal.returns-in-None-clause-ok
returns-in-None-clause-ok c =
    (refl, sym (absent-stays c.args.step.now.current c.args.process c.args.handle c.requires.sound (sym (rw c.store.ensures at c.in-None.ensures))))
