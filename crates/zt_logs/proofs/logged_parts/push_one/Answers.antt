-- One call more, which is the whole line.
use Rattle.zt_logs.specs.LineCalls.{alone}
use Rattle.zt_logs.proofs.LineCallLaws.{one_added}
use Rattle.zt_logs.proofs.logged_parts.push_one.Goals as goal

pub returns : goal.returns
returns c =
    one_added c.args.head.line c.args.head.count (alone c.args.call) c.args.recorded c.args.calls.now.items c.push_logged.new.calls.items c.call.result c.requires
    c.in_ok-push_logged.ensures c.call.ensures.part c.call.ensures.recorded
