use Rattle.std.proofs.Common.{◌<◌}
use Rattle.zt_cells.specs.ProofsOnly.NextValues.{IsNextValue}
use Rattle.zt_cells.proofs.cells.handle_tables.Entries.next_from.Given as goal

-- the least of the remainders so far
abbrev pub invariant-loop-remainder : goal.invariant-loop-remainder
invariant-loop-remainder l = IsNextValue l.self l.process l.from (λ r. r < l.remainder) l.least
