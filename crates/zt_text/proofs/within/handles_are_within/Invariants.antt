use Rattle.std.proofs.Common.{take, All}
use Rattle.zt_text.specs.Calls.{IsHandle}
use Rattle.zt_text.proofs.within.handles_are_within.Given as goal

abbrev pub invariant-loop-handle : goal.invariant-loop-handle
invariant-loop-handle l = All IsHandle (take l.handle-index l.handles)
