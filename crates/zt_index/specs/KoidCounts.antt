-- The koids that a row counts for.
use Rattle.std.specs.Prelude.{ℕ, ◌+◌, ◌==◌, ◌||◌, Bool, true, if◌then◌else◌, nat_lt, List, count_by, Option, None, Some, slice_index_or}
use Rattle.std.specs.List.{list_all}
use Rattle.zt_rows.specs.declared.keys.RowKey.{RowKey}
use Rattle.zt_rows.specs.declared.keys.RowKey.TheVariants as key
use Rattle.zt_rows.specs.declared.rows.Row.{Row}
use Rattle.zt_rows.specs.declared.rows.Row.TheVariants as rows
use Rattle.zt_rows.specs.Reads.{is_live_process, is_live_job}
use Rattle.zt_rows.specs.Settle.{is_child_job_of, is_child_process_of}
use Rattle.zt_index.specs.declared.support_counts.KoidCounts.{KoidCounts}

-- ---- what one row gives

-- how often an entry or the handles of a message name x
abbrev pub named_by : ℕ → RowKey → Row → ℕ
named_by x (key.Entry p h) (rows.Entry held) = if held.koid == x then 1 else 0
named_by x (key.Msg e n) (rows.Msg m) = count_by (λ held. held.koid == x) m.handles
named_by x _ _ = 0

-- one for a live job whose parent is x
abbrev pub job_by : ℕ → RowKey → Row → ℕ
job_by x k r = if is_child_job_of x k r then 1 else 0

-- one for a live process whose parent is x
abbrev pub process_by : ℕ → RowKey → Row → ℕ
process_by x k r = if is_child_process_of x k r then 1 else 0

abbrev pub none_given : KoidCounts
none_given = record { named = 0; jobs = 0; processes = 0 }

abbrev pub given : ℕ → RowKey → Row → KoidCounts
given x k r = record { named = named_by x k r; jobs = job_by x k r; processes = process_by x k r }

-- what the row gives, where there is one
abbrev pub given_if : ℕ → RowKey → Option Row → KoidCounts
given_if x k (Some r) = given x k r
given_if x k None = none_given

abbrev pub plus : KoidCounts → KoidCounts → KoidCounts
plus a b = record { named = a.named + b.named; jobs = a.jobs + b.jobs; processes = a.processes + b.processes }

-- ---- the koids that a row counts for, all of them below n

abbrev pub counts_within : ℕ → RowKey → Row → Bool
counts_within n (key.Entry p h) (rows.Entry held) = nat_lt held.koid n
counts_within n (key.Msg e m) (rows.Msg message) = list_all (λ held. nat_lt held.koid n) message.handles
counts_within n (key.Object y) (rows.Object o) = if is_live_job o || is_live_process o then nat_lt o.link n else true
counts_within n _ _ = true

abbrev pub counts_within_if : ℕ → RowKey → Option Row → Bool
counts_within_if n k (Some r) = counts_within n k r
counts_within_if n k None = true

-- ---- a list of numbers by koid, 0 beyond its end

abbrev pub numbers_at : List KoidCounts → ℕ → KoidCounts
numbers_at list x = slice_index_or list x none_given
