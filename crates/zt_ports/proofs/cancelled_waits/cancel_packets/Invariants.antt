use Rattle.std.proofs.Common.{◌≡◌}
use Rattle.zt_rows.specs.State.{change}
use Rattle.zt_rows.specs.Tests.{any_row}
use Rattle.zt_store.specs.Places.{Keeps}
use Rattle.zt_store.specs.StepView.{Advanced}
use Rattle.zt_signals.proofs.ColumnLaws.{is_dropped, left_by, numbers_after}
use Rattle.zt_ports.specs.ProofsOnly.CancelledWaits.{is_cancelled_packet}
use Rattle.zt_ports.specs.ProofsOnly.PacketWalk.{packet_index}
use Rattle.zt_ports.proofs.cancelled_waits.cancel_packets.Given as goal

abbrev pub invariant-loop-number : goal.invariant-loop-number
invariant-loop-number l =
    let test = is_cancelled_packet l.port l.process l.handle l.key in
    record {
      advanced : Advanced l.fn.step l.step (change (left_by (packet_index l.port) test l.low) l.fn.step.current);
      any : l.any ≡ any_row (is_dropped (packet_index l.port) test l.low) l.fn.step.current;
      kept : Keeps l.fn.step.places l.step.places;
    }

abbrev pub decreases-loop-number : goal.decreases-loop-number
decreases-loop-number l = numbers_after l.low
