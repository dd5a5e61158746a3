-- The line of a call reads as that call.
use Rattle.zt_import.proofs.TextLaws.{call-written}
use Rattle.zt_import.proofs.session_lines.put_line.Goals as goal

pub returns : goal.returns
returns c =
    call-written _ _ _ c.args.process c.args.call.now c.every_call_is_within.ensures.process c.every_call_is_within.ensures.call
    c.in_ok-put_call.ensures c.in_ok-push_str.ensures.bytes
