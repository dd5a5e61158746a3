use Rattle.std.proofs.Common.{take, All}
use Rattle.zt_text.specs.SavedTexts.{IsHeadWithin}
use Rattle.zt_text.proofs.laws.heads_are_within.Given as goal

abbrev pub invariant-loop-branch : goal.invariant-loop-branch
invariant-loop-branch l = All IsHeadWithin (take l.branch-index l.branches)
