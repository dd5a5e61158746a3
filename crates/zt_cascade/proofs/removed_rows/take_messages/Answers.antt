use Rattle.zt_rows.specs.declared.keys.RowKey.TheVariants as key
use Rattle.zt_store.proofs.AheadLaws.{ahead-then}
use Rattle.zt_cascade.proofs.TakingLaws.{messages-step}
use Rattle.zt_cascade.proofs.removed_rows.take_messages.Goals as goal

pub loop-number-smaller : goal.loop-number-smaller
loop-number-smaller c =
    (messages-step c.args.endpoint c.in-Some.number c.args.step.now.current c.loop-number.step.current c.change.new.step.current
    c.args.list.now.items c.loop-number.list.items c.note_handles.new.list.items
    (rw c.store.ensures at c.in-Some.ensures.first.0) (rw c.store.ensures at (c.in-Some.ensures.suited (key.Msg c.args.endpoint c.in-Some.number)))
    c.loop-number.invariant.partly c.loop-number.invariant.noted c.in_ok-change.ensures.ok c.in_ok-note_handles.ensures).2

pub loop-number-preserved : goal.loop-number-preserved
loop-number-preserved c =
    let w =
    messages-step c.args.endpoint c.in-Some.number c.args.step.now.current c.loop-number.step.current c.change.new.step.current
    c.args.list.now.items c.loop-number.list.items c.note_handles.new.list.items
    (rw c.store.ensures at c.in-Some.ensures.first.0) (rw c.store.ensures at (c.in-Some.ensures.suited (key.Msg c.args.endpoint c.in-Some.number)))
    c.loop-number.invariant.partly c.loop-number.invariant.noted c.in_ok-change.ensures.ok c.in_ok-note_handles.ensures in
    record {
      ahead = ahead-then c.args.step.now c.loop-number.step c.change.new.step c.loop-number.invariant.ahead c.change.ensures.ahead;
      partly = w.0;
      noted = w.1;
    }
