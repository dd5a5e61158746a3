use Rattle.std.proofs.Common.{take, All}
use Rattle.zt_text.specs.Rows.{IsHeldWithin}
use Rattle.zt_text.proofs.within.handles_held_are_within.Given as goal

abbrev pub invariant-loop-held : goal.invariant-loop-held
invariant-loop-held l = All IsHeldWithin (take l.held-index l.handles)
