use Rattle.std.proofs.Common.{take, All}
use Rattle.zt_text.specs.SavedTexts.{IsSavedCall}
use Rattle.zt_text.proofs.laws.moments_are_within.Given as goal

abbrev pub invariant-loop-made : goal.invariant-loop-made
invariant-loop-made l = All IsSavedCall (take l.made-index l.moments)
