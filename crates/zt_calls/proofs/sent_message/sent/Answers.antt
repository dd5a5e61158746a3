use Rattle.std.proofs.Common.{◌<◌, ◌+◌, length, take, drop, Ok, sym, ap, ◌∙◌, arith}
use Rattle.zt_rows.specs.ChannelCalls.{sent}
use Rattle.zt_calls.proofs.SendingLaws.{joined, sent-more, sent-all}
use Rattle.zt_calls.proofs.sent_message.sent.Goals as goal

pub loop-i-preserved : goal.loop-i-preserved
loop-i-preserved c =
    let S = c.args.step.now.current in
    let values = c.args.values.now in
    let i = c.loop-i.i in
    let below : i < length values = omega arith in
    ap (λ l. joined l (sent S c.args.process c.args.channel (take (i + 1) values) (drop (i + 1) values))) c.in-Ok.ensures.items
    ∙ sent-more S c.args.process c.args.channel values i c.index-values-i.result below c.index-values-i.is c.loop-i.handles.items c.in_ok-held.held _ c.loop-i.invariant (sym c.in_ok-held.ensures)

pub returns : goal.returns
returns c =
    sent-all c.args.step.now.current c.args.process c.args.channel c.args.values.now c.loop-i.i c.loop-i.handles.items _ c.loop-i-test.false c.loop-i.invariant
    ∙ ap Ok (sym c.new.ensures)
