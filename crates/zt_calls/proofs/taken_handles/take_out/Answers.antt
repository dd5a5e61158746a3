use Rattle.std.proofs.lemmas.Result.{on_ok_weaker}
use Rattle.zt_calls.proofs.TakingLaws.{take_out-does}
use Rattle.zt_calls.proofs.taken_handles.take_out.Goals as goal

pub returns-clause-ok : goal.returns-clause-ok
returns-clause-ok c =
    on_ok_weaker c.drop_waits.result
    (λ dropped. take_out-does c.args.step.now c.remove.new.step c.drop_waits.new.step c.args.process c.args.handle c.requires.there c.in_ok-remove.ensures.removed dropped)
    c.drop_waits.ensures.ok
