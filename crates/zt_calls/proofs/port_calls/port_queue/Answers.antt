use Rattle.zt_calls.proofs.PortCallLaws.{port-fits}
use Rattle.zt_calls.proofs.port_calls.port_queue.Goals as goal

pub queue-requires : goal.queue-requires
queue-requires c =
    port-fits c.args.step.now.current c.args.process c.args.port 0x8 c.in_ok-held.held c.in_ok-held.field-0-1 c.requires.room c.in_ok-held.ensures
