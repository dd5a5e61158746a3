-- The message has as many handles as the parcel, so it is within the limits of a message.
use Rattle.std.proofs.Common.{◌≡◌, [], length, ap, ◌∙◌, arith}
use Rattle.zt_rows.proofs.SentLaws.{sent-held}
use Rattle.zt_calls.proofs.sent_message.message_for.Goals as goal

pub unwrap-message-requires : goal.unwrap-message-requires
unwrap-message-requires c =
    let bytes : length c.in_ok-bytes.bytes ≡ length c.args.parcel.now.bytes = ap length (c.in_ok-bytes.ensures ∙ c.bytes.ensures) in
    let values : length c.as_slice.result.now ≡ length c.args.parcel.now.handles = ap length (c.as_slice.ensures ∙ c.handles.ensures) in
    let handles : length c.in_ok-handles.handles ≡ length c.as_slice.result.now = (sent-held c.args.step.now.current c.args.process c.args.handle [] c.as_slice.result.now c.in_ok-handles.handles c.in_ok-handles.ensures).1 in
    c.new.ensures.within.1 (omega (arith, c.limits.ensures.0), omega (arith, c.limits.ensures.1))
