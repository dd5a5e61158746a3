-- Moment by moment.
use Rattle.zt_look.proofs.CallLaws.{asked-more}
use Rattle.zt_look.proofs.call_list.calls_standing.Goals as goal

pub loop-place-preserved : goal.loop-place-preserved
loop-place-preserved c =
    asked-more c.args.history.now.tree.made c.args.asked.now c.args.way.now c.loop-place.place c.index-way-place.result c.loop-place.list.items
    c.push_within.new.list.items c.loop-place-test.true c.index-way-place.is c.loop-place.invariant c.in_ok-push_within.ensures
