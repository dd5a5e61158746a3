use Rattle.std.proofs.Common.{◌≤◌, ◌<◌, ℕ, length, map}
use Rattle.zt_cells.specs.ProofsOnly.TablePlaces.{by_owner, lengths}
use Rattle.zt_cells.specs.TableSizes.{most_owners}
use Rattle.zt_cells.proofs.cells.handle_tables.Entries.owners.Given as goal

abbrev pub invariant-loop-by_owner : goal.invariant-loop-by_owner
invariant-loop-by_owner l = ((r : ℕ) → r < l.by_owner-index → length (by_owner l.self r) ≤ l.most) × (l.most ≤ most_owners (map lengths l.self))
