-- What a row counts for: nothing, one koid, or each koid that a handle of a message names. Used by proofs only.
use Rattle.std.specs.Prelude.{ℕ, ◌≤◌, ◌==◌, Bool, true, if◌then◌else◌, nat_lt, List, length, count_by, ⊤, Option, Some, None}
use Rattle.std.specs.List.{list_all}
use Rattle.zt_rows.specs.declared.rows.Held.{Held}
use Rattle.zt_rows.specs.declared.rows.ObjectRow.{ObjectRow}
use Rattle.zt_rows.specs.Reads.{is_live_job, is_live_process}
use Rattle.zt_index.specs.declared.support_counts.CountedRow.{CountedRow}
use Rattle.zt_index.specs.declared.support_counts.CountedRow.TheVariants as counted
use Rattle.zt_index.specs.declared.support_counts.KoidCounts.{KoidCounts}
use Rattle.zt_index.specs.KoidCounts.{none_given}

-- what a live job or process gives its parent
abbrev pub task_given : ObjectRow → Option KoidCounts
task_given o =
    if is_live_job o then Some (record { named = 0; jobs = 1; processes = 0 })
    else (if is_live_process o then Some (record { named = 0; jobs = 0; processes = 1 }) else None)

-- the names that handles give x
abbrev pub names_given : ℕ → List Held → KoidCounts
names_given x handles = record { named = count_by (λ held. held.koid == x) handles; jobs = 0; processes = 0 }

-- what x gets of it
abbrev pub counted_for : ℕ → CountedRow → KoidCounts
counted_for x counted.Nothing = none_given
counted_for x (counted.One koid more) = if koid == x then more else none_given
counted_for x (counted.Handles handles) = names_given x handles.now

-- the koids are all below n
abbrev pub counted_within : ℕ → CountedRow → Bool
counted_within n counted.Nothing = true
counted_within n (counted.One koid more) = nat_lt koid n
counted_within n (counted.Handles handles) = list_all (λ held. nat_lt held.koid n) handles.now

-- one row gives little
abbrev pub IsSmall : CountedRow → Type 0
IsSmall counted.Nothing = ⊤
IsSmall (counted.One koid more) = (more.named ≤ 1) × (more.jobs ≤ 1) × (more.processes ≤ 1)
IsSmall (counted.Handles handles) = length handles.now ≤ 64
