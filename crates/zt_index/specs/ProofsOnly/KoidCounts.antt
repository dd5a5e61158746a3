-- How often the rows of a state name each koid: what one row gives by itself, and all rows together. Used by proofs
-- only.
use Rattle.std.specs.Prelude.{◌≡◌, ◌≤◌, ℕ, ◌+◌, ◌==◌, ◌||◌, Bool, false, List, [], ◌∷◌, Option, None, Some}
use Rattle.zt_rows.specs.declared.keys.RowKey.{RowKey}
use Rattle.zt_rows.specs.declared.rows.ObjectRow.{ObjectRow}
use Rattle.zt_rows.specs.declared.rows.Row.{Row}
use Rattle.zt_rows.specs.State.{State, row}
use Rattle.zt_rows.specs.Reads.{is_live_process, is_live_job}
use Rattle.zt_rows.specs.Support.{root_job}
use Rattle.zt_index.specs.declared.support_counts.KoidCounts.{KoidCounts}
use Rattle.zt_index.specs.KoidCounts.{named_by, job_by, process_by, numbers_at}

-- ---- all rows

abbrev pub sum_rows : (RowKey → Row → ℕ) → List (RowKey × Row) → ℕ
sum_rows g [] = 0
sum_rows g (e ∷ es) = g e.0 e.1 + sum_rows g es

unfoldable pub total : (RowKey → Row → ℕ) → State → ℕ
total g S = sum_rows g S.rows

-- what all rows of S give x
abbrev pub numbers_of : State → ℕ → KoidCounts
numbers_of S x = record { named = total (named_by x) S; jobs = total (job_by x) S; processes = total (process_by x) S }

-- ---- a list of numbers by koid, 0 beyond its end

-- the object keeps the live tasks below it as its supports
abbrev pub keeps_tasks : Option ObjectRow → Bool
keeps_tasks (Some o) = is_live_job o
keeps_tasks None = false

-- whether the object supports itself
abbrev pub keeps_itself : ℕ → Option ObjectRow → Bool
keeps_itself x (Some o) = is_live_process o || (x == root_job)
keeps_itself x None = false

-- ---- numbers that are those of the rows

-- no row names an object more often than a message has handles
abbrev pub NamesFew : State → Type 0
NamesFew S = (x : ℕ) (k : RowKey) (r : Row) → row S k ≡ Some r → named_by x k r ≤ 64

-- the numbers by koid are those of the rows
abbrev pub AreKoidCounts : State → List KoidCounts → Type 0
AreKoidCounts S list = (x : ℕ) → numbers_at list x ≡ numbers_of S x
