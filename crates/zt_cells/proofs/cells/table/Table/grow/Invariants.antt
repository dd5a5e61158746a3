use Rattle.std.proofs.Common.{◌≡◌, ◌≤◌, ℕ, ◌-◌, vec_len}
use Rattle.std.specs.Vec.{vec_capacity}
use Rattle.zt_cells.specs.ProofsOnly.TablePlaces.{cell}
use Rattle.zt_cells.proofs.cells.table.Table.grow.Given as goal

abbrev pub invariant-loop-self : goal.invariant-loop-self
invariant-loop-self l =
    ((n : ℕ) → cell l.self-inside.places.items n ≡ cell l.fn.self n) × (vec_len l.self-inside.places ≤ l.len) × (l.len ≤ vec_capacity l.self-inside.places)

abbrev pub decreases-loop-self : goal.decreases-loop-self
decreases-loop-self l = l.len - vec_len l.self-inside.places
