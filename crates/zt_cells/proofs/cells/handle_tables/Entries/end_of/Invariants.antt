use Rattle.std.proofs.Common.{◌≤◌, ◌<◌, ℕ, length, map, ◌^◌}
use Rattle.zt_cells.specs.ProofsOnly.TablePlaces.{by_owner, lengths, table}
use Rattle.zt_cells.specs.TableSizes.{most_places}
use Rattle.zt_cells.proofs.cells.handle_tables.Entries.end_of.Given as goal

abbrev pub invariant-loop-by_owner : goal.invariant-loop-by_owner
invariant-loop-by_owner l =
    (((r : ℕ) → r < l.by_owner-index → length (table (by_owner l.self r) l.fn.process) ≤ l.most) × (l.most ≤ most_places (map lengths l.self) l.fn.process))
    × (l.most ≤ 2 ^ 48)
