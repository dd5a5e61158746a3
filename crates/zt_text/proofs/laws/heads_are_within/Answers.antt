use Rattle.std.proofs.Common.{take_all}
use Rattle.std.proofs.lemmas.List.Elements.{All-more}
use Rattle.zt_text.specs.SavedTexts.{IsHeadWithin}
use Rattle.zt_text.proofs.laws.heads_are_within.Goals as goal

pub loop-branch-preserved : goal.loop-branch-preserved
loop-branch-preserved c =
    All-more IsHeadWithin c.args.branches.now c.loop-branch.branch-index c.branch-item.result c.loop-branch-test.true c.loop-branch.invariant
    (rw c.branch-item.is at c.head_is_within.ensures)

pub returns : goal.returns
returns c = rw (take_all c.loop-branch.branch-index c.args.branches.now c.loop-branch-test.false) at c.loop-branch.invariant
