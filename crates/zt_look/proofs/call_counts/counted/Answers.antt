-- Moment by moment, one call more.
use Rattle.zt_look.proofs.CountLaws.{counted-more}
use Rattle.zt_look.proofs.call_counts.counted.Goals as goal

pub loop-moment-preserved : goal.loop-moment-preserved
loop-moment-preserved c =
    counted-more c.args.history.now.tree.made c.args.way.now c.loop-moment.moment-index c.moment-item.result c.loop-moment.counts c.count_call.new.counts c.loop-moment-test.true
    c.moment-item.is c.loop-moment.invariant c.in_ok-count_call.ensures
