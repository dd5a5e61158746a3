use Rattle.std.proofs.Common.{◌||◌, refl, sym, ap, ◌∙◌}
use Rattle.zt_rows.specs.Tests.{any_row}
use Rattle.zt_signals.specs.ProofsOnly.WaitGroups.{picks}
use Rattle.zt_signals.specs.DroppedWaits.{is_wait_where}
use Rattle.zt_signals.proofs.ColumnLaws.{IsColumn, is_dropped, drop-start, any-start, drop-next, any-next, drop-end, any-end}
use Rattle.zt_signals.proofs.DroppingLaws.{wait_key, wait_index, wait-column}
use Rattle.zt_signals.proofs.wait_group.drop_picked.Goals as goal

pub loop-number-init : goal.loop-number-init
loop-number-init c =
    let test = is_wait_where (picks c.args.picked) in
    let column : IsColumn wait_key wait_index test = wait-column (picks c.args.picked) in
    record {
      advanced = (refl, drop-start wait_key wait_index test column c.args.step.now.current);
      any = any-start wait_key wait_index test column c.args.step.now.current;
      kept = λ R fit. fit;
    }

pub loop-number-preserved : goal.loop-number-preserved
loop-number-preserved c =
    let test = is_wait_where (picks c.args.picked) in
    let column : IsColumn wait_key wait_index test = wait-column (picks c.args.picked) in
    let S = c.args.step.now.current in
    let T = c.loop-number.step.current in
    let so_far = c.loop-number.invariant.advanced.1 in
    record {
      advanced = (
        c.in_ok-told.ensures.ok.0 ∙ c.loop-number.invariant.advanced.0,
        c.in_ok-told.ensures.ok.1 ∙ sym (drop-next wait_key wait_index test column S T c.loop-number.low so_far c.in-Some.number c.in-Some.ensures),
      );
      any =
          ap (λ b. b || c.in_ok-told.told) c.loop-number.invariant.any
          ∙ ap (λ b. any_row (is_dropped wait_index test c.loop-number.low) S || b) c.in_ok-told.ensures.told
          ∙ any-next wait_key wait_index test column S T c.loop-number.low so_far c.in-Some.number c.in-Some.ensures;
      kept = λ R fit. c.in_ok-told.ensures.kept R (c.loop-number.invariant.kept R fit);
    }

pub returns-clause-ok : goal.returns-clause-ok
returns-clause-ok c =
    let test = is_wait_where (picks c.args.picked) in
    let column : IsColumn wait_key wait_index test = wait-column (picks c.args.picked) in (
      c.loop-number.invariant.advanced.0,
      drop-end wait_key wait_index test column c.args.step.now.current c.loop-number.step.current c.loop-number.low c.loop-number.invariant.advanced.1 c.in_default.ensures,
    )

pub returns-clause-any : goal.returns-clause-any
returns-clause-any c =
    let test = is_wait_where (picks c.args.picked) in
    let column : IsColumn wait_key wait_index test = wait-column (picks c.args.picked) in
    c.loop-number.invariant.any
    ∙ any-end wait_key wait_index test column c.args.step.now.current c.loop-number.step.current c.loop-number.low c.loop-number.invariant.advanced.1 c.in_default.ensures
