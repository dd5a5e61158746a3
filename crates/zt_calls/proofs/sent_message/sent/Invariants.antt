use Rattle.std.proofs.Common.{◌≡◌, [], take, drop}
use Rattle.zt_rows.specs.ChannelCalls.{sent}
use Rattle.zt_calls.proofs.SendingLaws.{joined}
use Rattle.zt_calls.proofs.sent_message.sent.Given as goal

abbrev pub invariant-loop-i : goal.invariant-loop-i
invariant-loop-i l =
    joined l.handles.items (sent l.step.current l.process l.channel (take l.i l.values) (drop l.i l.values)) ≡ sent l.step.current l.process l.channel [] l.values
