use Rattle.std.proofs.Common.{length}
use Rattle.zt_store.proofs.TouchedIndexLaws.{IsLookingBack}
use Rattle.zt_store.proofs.touched_index.chained_place.Given as goal

abbrev pub invariant-chain : goal.invariant-chain
invariant-chain l = IsLookingBack (length l.last) l.keys l.key l.number

abbrev pub decreases-chain : goal.decreases-chain
decreases-chain l = l.number
