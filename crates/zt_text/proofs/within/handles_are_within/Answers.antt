use Rattle.std.proofs.Common.{take_all}
use Rattle.std.proofs.lemmas.List.Elements.{All-more}
use Rattle.zt_text.specs.Calls.{IsHandle}
use Rattle.zt_text.proofs.within.handles_are_within.Goals as goal

pub loop-handle-preserved : goal.loop-handle-preserved
loop-handle-preserved c =
    All-more IsHandle c.args.handles.now c.loop-handle.handle-index c.handle-item.result c.loop-handle-test.true c.loop-handle.invariant
    (rw c.handle-item.is at c.handle_is_within.ensures)

pub returns : goal.returns
returns c = rw (take_all c.loop-handle.handle-index c.args.handles.now c.loop-handle-test.false) at c.loop-handle.invariant
