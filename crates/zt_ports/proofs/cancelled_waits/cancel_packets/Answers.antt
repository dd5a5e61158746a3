use Rattle.std.proofs.Common.{◌||◌, None, Some, refl, sym, ap, ◌∙◌}
use Rattle.zt_rows.specs.Tests.{any_row}
use Rattle.zt_signals.proofs.ColumnLaws.{IsColumn, is_dropped, drop-start, any-start, next-that, drop-next, any-next, drop-end, any-end}
use Rattle.zt_ports.specs.ProofsOnly.CancelledWaits.{is_cancelled_packet}
use Rattle.zt_ports.specs.ProofsOnly.PacketWalk.{packet_key, packet_index}
use Rattle.zt_ports.proofs.PacketLaws.{cancelled-column}
use Rattle.zt_ports.proofs.cancelled_waits.cancel_packets.Goals as goal

pub loop-number-init : goal.loop-number-init
loop-number-init c =
    let x = c.args.port in
    let test = is_cancelled_packet x c.args.process c.args.handle c.args.key in
    let column : IsColumn (packet_key x) (packet_index x) test = cancelled-column x c.args.process c.args.handle c.args.key in
    record {
      advanced = (refl, drop-start (packet_key x) (packet_index x) test column c.args.step.now.current);
      any = any-start (packet_key x) (packet_index x) test column c.args.step.now.current;
      kept = λ R fit. fit;
    }

pub loop-number-preserved : goal.loop-number-preserved
loop-number-preserved c =
    let x = c.args.port in
    let test = is_cancelled_packet x c.args.process c.args.handle c.args.key in
    let column : IsColumn (packet_key x) (packet_index x) test = cancelled-column x c.args.process c.args.handle c.args.key in
    let S = c.args.step.now.current in
    let T = c.loop-number.step.current in
    let so_far = c.loop-number.invariant.advanced.1 in
    record {
      advanced = (
        c.in_ok-told.ensures.ok.0 ∙ c.loop-number.invariant.advanced.0,
        c.in_ok-told.ensures.ok.1 ∙ sym (drop-next (packet_key x) (packet_index x) test column S T c.loop-number.low so_far c.in-Some.number (next-that test T (packet_key x) c.loop-number.low (Some c.in-Some.number) c.in-Some.ensures)),
      );
      any =
          ap (λ b. b || c.in_ok-told.told) c.loop-number.invariant.any
          ∙ ap (λ b. any_row (is_dropped (packet_index x) test c.loop-number.low) S || b) c.in_ok-told.ensures.told
          ∙ any-next (packet_key x) (packet_index x) test column S T c.loop-number.low so_far c.in-Some.number (next-that test T (packet_key x) c.loop-number.low (Some c.in-Some.number) c.in-Some.ensures);
      kept = λ R fit. c.in_ok-told.ensures.kept R (c.loop-number.invariant.kept R fit);
    }

pub returns-clause-ok : goal.returns-clause-ok
returns-clause-ok c =
    let x = c.args.port in
    let test = is_cancelled_packet x c.args.process c.args.handle c.args.key in
    let column : IsColumn (packet_key x) (packet_index x) test = cancelled-column x c.args.process c.args.handle c.args.key in (
      c.loop-number.invariant.advanced.0,
      drop-end (packet_key x) (packet_index x) test column c.args.step.now.current c.loop-number.step.current c.loop-number.low c.loop-number.invariant.advanced.1 (next-that test c.loop-number.step.current (packet_key x) c.loop-number.low None c.in_default.ensures),
    )

pub returns-clause-any : goal.returns-clause-any
returns-clause-any c =
    let x = c.args.port in
    let test = is_cancelled_packet x c.args.process c.args.handle c.args.key in
    let column : IsColumn (packet_key x) (packet_index x) test = cancelled-column x c.args.process c.args.handle c.args.key in
    c.loop-number.invariant.any
    ∙ any-end (packet_key x) (packet_index x) test column c.args.step.now.current c.loop-number.step.current c.loop-number.low c.loop-number.invariant.advanced.1 (next-that test c.loop-number.step.current (packet_key x) c.loop-number.low None c.in_default.ensures)
