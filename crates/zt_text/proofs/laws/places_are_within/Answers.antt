use Rattle.std.proofs.Common.{take_all}
use Rattle.std.proofs.lemmas.List.Elements.{All-more}
use Rattle.zt_text.specs.SavedTexts.{IsPlaceWithin}
use Rattle.zt_text.proofs.laws.places_are_within.Goals as goal

pub loop-cursor-preserved : goal.loop-cursor-preserved
loop-cursor-preserved c =
    All-more IsPlaceWithin c.args.cursors.now c.loop-cursor.cursor-index c.cursor-item.result c.loop-cursor-test.true c.loop-cursor.invariant
    (rw c.cursor-item.is at c.place_is_within.ensures)

pub returns : goal.returns
returns c = rw (take_all c.loop-cursor.cursor-index c.args.cursors.now c.loop-cursor-test.false) at c.loop-cursor.invariant
