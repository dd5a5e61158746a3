use Rattle.std.proofs.Common.{◌≡◌, true}
use Rattle.zt_store.specs.Places.{fits}
use Rattle.benches.proofs.store_workloads.swap_often.Given as goal

abbrev pub invariant-swaps : goal.invariant-swaps
invariant-swaps l = fits l.store.places l.kept ≡ true
