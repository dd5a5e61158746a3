-- So far the list has the waits before the next one.
use Rattle.std.proofs.Common.{◌≡◌, ◌-◌, length}
use Rattle.zt_look.specs.ObjectLook.{is_wait_about}
use Rattle.zt_look.specs.ProofsOnly.RowWalk.{lesser, wait_key, rows_before, AreNextWaits}
use Rattle.zt_look.proofs.object_rows.waits_of.Given as goal

abbrev pub invariant-waits : goal.invariant-waits
invariant-waits l = record {
  listed : l.list.items ≡ rows_before (is_wait_about l.store.state l.koid) (wait_key (lesser l.next.by_port l.next.by_handle)) l.store.state.rows;
  next : AreNextWaits l.store.state l.koid l.next.low l.next.by_port l.next.by_handle;
}

abbrev pub decreases-waits : goal.decreases-waits
decreases-waits l = length l.store.state.rows - length l.list.items
