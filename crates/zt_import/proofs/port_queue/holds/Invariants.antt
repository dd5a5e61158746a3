-- None of the packets before the next one is the one that is sought.
use Rattle.zt_import.specs.ProofsOnly.PortQueue.{AreOthersBefore, left_from}
use Rattle.zt_import.proofs.port_queue.holds.Given as goal

abbrev pub invariant-packets : goal.invariant-packets
invariant-packets l = AreOthersBefore l.store.state l.port l.recorded l.next

abbrev pub decreases-packets : goal.decreases-packets
decreases-packets l = left_from l.next
