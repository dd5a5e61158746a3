use Rattle.std.proofs.Common.{length}
use Rattle.zt_store.specs.ProofsOnly.TouchedIndex.{IsChainedTo}
use Rattle.zt_store.proofs.touched_index.chain_all.Given as goal

abbrev pub invariant-loop-place : goal.invariant-loop-place
invariant-loop-place l = IsChainedTo (length l.last) l.last l.links l.keys l.place
