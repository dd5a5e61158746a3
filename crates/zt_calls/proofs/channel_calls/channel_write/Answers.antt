-- The message goes to the peer, which has room for one more, as it did before the entries were taken out.
use Rattle.std.proofs.Common.{Err, subst, ◌∙◌}
use Rattle.zt_calls.specs.ProofsOnly.SentMessage.{Finds, message_for}
use Rattle.zt_calls.proofs.SendingLaws.{push-fits, write-sends, write-fails}
use Rattle.zt_calls.proofs.channel_calls.channel_write.Goals as goal

pub push-requires : goal.push-requires
push-requires c =
    push-fits c.args.step.now c.take_out_all.new.step c.args.process c.args.handle c.args.parcel.now.bytes c.args.parcel.now.handles c.as_slice-values.result.now
    (c.as_slice-values.ensures ∙ c.handles.ensures) c.in_ok-take_out_all-in-Ok.ensures.ok _ c.requires.sound c.requires.room c.in-Ok.ensures

pub returns-in_ok-push-in-Ok-clause-does : goal.returns-in_ok-push-in-Ok-clause-does
returns-in_ok-push-in-Ok-clause-does c =
    write-sends c.args.step.now c.take_out_all.new.step c.args.process c.args.handle c.args.parcel.now.bytes c.args.parcel.now.handles c.as_slice-values.result.now
    (c.as_slice-values.ensures ∙ c.handles.ensures) c.in_ok-take_out_all-in-Ok.ensures.ok c.push.new.step _ c.in-Ok.ensures c.in_ok-push-in-Ok.ensures.ok

pub returns-in_ok-take_out_all-in-Err-Status-clause-does : goal.returns-in_ok-take_out_all-in-Err-Status-clause-does
returns-in_ok-take_out_all-in-Err-Status-clause-does c =
    let parcel = c.args.parcel.now in
    let found = subst (λ e. Finds (message_for c.args.step.now.current c.args.process c.args.handle parcel.bytes parcel.handles) (Err e)) c.in-Err-Status.field-0-is c.in-Err-Status.ensures in
    write-fails c.args.step.now c.take_out_all-in-Err-Status.new.step c.args.process c.args.handle parcel.bytes parcel.handles c.as_slice-values.result.now
    (c.as_slice-values.ensures ∙ c.handles.ensures) c.in_ok-take_out_all-in-Err-Status.ensures.ok c.in-Err-Status.wrong found
