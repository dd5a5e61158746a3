-- Event by event.
use Rattle.zt_look.proofs.FateLaws.{all_times-next}
use Rattle.zt_look.proofs.fates.fate_times_of.Goals as goal

pub loop-event-preserved : goal.loop-event-preserved
loop-event-preserved c =
    all_times-next c.args.events.now c.loop-event.event-index c.event-item.result c.loop-event.all_times.items c.add_event.new.all_times.items c.loop-event-test.true
    c.event-item.is c.loop-event.invariant c.in_ok-add_event.ensures
