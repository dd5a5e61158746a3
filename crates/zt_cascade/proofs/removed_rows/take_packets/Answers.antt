use Rattle.std.specs.Prelude.{IsSome}
use Rattle.zt_rows.specs.declared.keys.RowKey.TheVariants as key
use Rattle.zt_rows.specs.State.{row}
use Rattle.zt_store.proofs.AheadLaws.{ahead-then}
use Rattle.zt_cascade.proofs.TakingLaws.{packets-step}
use Rattle.zt_cascade.proofs.removed_rows.take_packets.Goals as goal

pub loop-number-smaller : goal.loop-number-smaller
loop-number-smaller c =
    let some : IsSome (row c.loop-number.step.current (key.Packet c.args.port c.in-Some.number)) = (rw c.store.ensures at c.in-Some.ensures.first.0) in
    (packets-step c.args.port c.in-Some.number c.args.step.now.current c.loop-number.step.current c.change.new.step.current
    some c.loop-number.invariant.suited c.loop-number.invariant.partly c.in_ok-change.ensures.ok).2

pub loop-number-preserved : goal.loop-number-preserved
loop-number-preserved c =
    let some : IsSome (row c.loop-number.step.current (key.Packet c.args.port c.in-Some.number)) = (rw c.store.ensures at c.in-Some.ensures.first.0) in
    let w =
    packets-step c.args.port c.in-Some.number c.args.step.now.current c.loop-number.step.current c.change.new.step.current
    some c.loop-number.invariant.suited c.loop-number.invariant.partly c.in_ok-change.ensures.ok in
    record {
      ahead = ahead-then c.args.step.now c.loop-number.step c.change.new.step c.loop-number.invariant.ahead c.change.ensures.ahead;
      partly = w.0;
      suited = w.1;
    }
