use Rattle.std.proofs.Common.{length}
use Rattle.zt_index.specs.ProofsOnly.Chains.{IsBesides, buckets, is_in}
use Rattle.zt_index.proofs.ChainLaws.{room_above}
use Rattle.zt_index.proofs.chains.after.Given as goal

abbrev pub invariant-items : goal.invariant-items
invariant-items l = IsBesides (is_in (buckets l.links) l.bucket) l.low l.found

abbrev pub decreases-items : goal.decreases-items
decreases-items l = room_above (length (buckets l.links)) l.found
