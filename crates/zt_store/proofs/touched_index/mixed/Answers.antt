use Rattle.std.proofs.Common.{◌+◌, ◌*◌, ◌/◌, ◌%◌, ◌^◌}
use Rattle.zt_store.specs.ProofsOnly.TouchedIndex.{mixed_of}
use Rattle.zt_store.proofs.touched_index.mixed.Goals as goal

pub returns : goal.returns
unfolding mixed_of
returns c = λ i.
    ((c.parts-variant.ensures.first i * 0x100000000 % 2 ^ 64 + c.parts-variant.ensures.second i * 0xc2b2ae3d27d4eb4f % 2 ^ 64) % 2 ^ 64 + c.parts-variant.ensures.variant i * 0x165667b19e3779f9 % 2 ^ 64) % 2 ^ 64 / 2 ^ 32
