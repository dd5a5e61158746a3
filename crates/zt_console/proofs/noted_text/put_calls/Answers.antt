-- The line of the next call stands behind those.
use Rattle.std.proofs.Common.{◌<◌, length, arith}
use Rattle.zt_text.specs.NotedTexts.{noted_call_line}
use Rattle.zt_console.specs.NotedPaths.{numbered_call}
use Rattle.zt_console.proofs.NotedLaws.{call_put}
use Rattle.zt_console.proofs.noted_text.put_calls.Goals as goal

pub loop-moment-preserved : goal.loop-moment-preserved
loop-moment-preserved c =
    let below : c.loop-moment.moment-index < length c.args.way.now = omega arith in
    call_put (numbered_call c.args.history.now.tree.made) (noted_call_line c.args.notes.now) c.args.way.now c.loop-moment.moment-index c.moment-item.result
    c.args.text.now.items c.loop-moment.text.items c.put_call_line.new.text.items below c.moment-item.is c.loop-moment.invariant c.in_ok-put_call_line.ensures
