-- So far the list has the entries before the next one.
use Rattle.zt_look.specs.ProofsOnly.HandlesSoFar.{AreHandlesBefore, left_from}
use Rattle.zt_look.proofs.handle_list.handles_of.Given as goal

abbrev pub invariant-handles : goal.invariant-handles
invariant-handles l = AreHandlesBefore l.store.state l.process l.next l.list.items

abbrev pub decreases-handles : goal.decreases-handles
decreases-handles l = left_from l.next
