-- What is copied is what the path gives so far.
use Rattle.std.proofs.Common.{length, ◌<◌, arith}
use Rattle.zt_history.specs.Tree.{call_at}
use Rattle.zt_queries.proofs.CopyLaws.{given_more}
use Rattle.zt_console.proofs.saved_text.calls_on.Goals as goal

pub loop-moment-preserved : goal.loop-moment-preserved
loop-moment-preserved c =
    let below : c.loop-moment.moment-index < length c.args.way.now = omega arith in
    given_more (call_at c.args.history.now.tree.made) c.args.way.now c.loop-moment.moment-index c.moment-item.result
    c.loop-moment.calls.items c.push_call.new.calls.items below c.moment-item.is c.loop-moment.invariant c.in_ok-push_call.ensures
