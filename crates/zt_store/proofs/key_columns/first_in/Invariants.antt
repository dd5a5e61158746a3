use Rattle.std.proofs.Common.{◌≡◌, ℕ, ◌≤◌, ◌<◌, None}
use Rattle.zt_rows.specs.State.{row}
use Rattle.zt_store.specs.ProofsOnly.KeyColumns.{key_in}
use Rattle.zt_store.proofs.key_columns.first_in.Given as goal

-- under the numbers so far there is no row
abbrev pub invariant-loop-number : goal.invariant-loop-number
invariant-loop-number l = (n : ℕ) → l.from ≤ n → n < l.number → row l.cells.state (key_in l.column n) ≡ None
