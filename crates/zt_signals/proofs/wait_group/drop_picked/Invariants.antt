use Rattle.std.proofs.Common.{◌≡◌}
use Rattle.zt_rows.specs.State.{change}
use Rattle.zt_rows.specs.Tests.{any_row}
use Rattle.zt_store.specs.Places.{Keeps}
use Rattle.zt_store.specs.StepView.{Advanced}
use Rattle.zt_signals.specs.ProofsOnly.WaitGroups.{picks}
use Rattle.zt_signals.specs.DroppedWaits.{is_wait_where}
use Rattle.zt_signals.proofs.ColumnLaws.{is_dropped, left_by, numbers_after}
use Rattle.zt_signals.proofs.DroppingLaws.{wait_index}
use Rattle.zt_signals.proofs.wait_group.drop_picked.Given as goal

abbrev pub invariant-loop-number : goal.invariant-loop-number
invariant-loop-number l =
    let test = is_wait_where (picks l.picked) in
    record {
      advanced : Advanced l.fn.step l.step (change (left_by wait_index test l.low) l.fn.step.current);
      any : l.any ≡ any_row (is_dropped wait_index test l.low) l.fn.step.current;
      kept : Keeps l.fn.step.places l.step.places;
    }

abbrev pub decreases-loop-number : goal.decreases-loop-number
decreases-loop-number l = numbers_after l.low
