use Rattle.std.proofs.Common.{sym, subst}
use Rattle.zt_rows.specs.declared.calls.Call.{Call}
use Rattle.zt_rows.specs.Step.{direct}
use Rattle.zt_calls.specs.ProofsOnly.CallOutcomes.{Does}
use Rattle.zt_calls.proofs.applied_call.direct.Goals as goal

pub returns-in-ChannelWrite-clause-does : goal.returns-in-ChannelWrite-clause-does
unfolding direct
returns-in-ChannelWrite-clause-does c =
    subst (λ (k : Call). Does (direct c.args.step.now.current c.args.process k) c.args.step.now c.channel_write.new.step c.channel_write.result) (sym c.in-ChannelWrite.is) c.channel_write.ensures.does
