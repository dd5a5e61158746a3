use Rattle.std.proofs.Common.{take_all}
use Rattle.std.proofs.lemmas.List.Elements.{All-more}
use Rattle.zt_text.specs.SavedTexts.{IsSavedCall}
use Rattle.zt_text.proofs.laws.moments_are_within.Goals as goal

pub loop-made-preserved : goal.loop-made-preserved
loop-made-preserved c =
    All-more IsSavedCall c.args.moments.now c.loop-made.made-index c.made-item.result c.loop-made-test.true c.loop-made.invariant
    (rw c.made-item.is at c.moment_is_within.ensures)

pub returns : goal.returns
returns c = rw (take_all c.loop-made.made-index c.args.moments.now c.loop-made-test.false) at c.loop-made.invariant
