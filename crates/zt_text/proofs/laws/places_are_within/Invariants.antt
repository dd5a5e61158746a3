use Rattle.std.proofs.Common.{take, All}
use Rattle.zt_text.specs.SavedTexts.{IsPlaceWithin}
use Rattle.zt_text.proofs.laws.places_are_within.Given as goal

abbrev pub invariant-loop-cursor : goal.invariant-loop-cursor
invariant-loop-cursor l = All IsPlaceWithin (take l.cursor-index l.cursors)
