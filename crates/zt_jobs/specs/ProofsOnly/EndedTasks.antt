-- Ending in parts: the rows of objects, then the tables of processes, then the waits. This project's own form.
-- Used by proofs only.
use Rattle.std.specs.Prelude.{ℕ, Bool, ◌==◌, if◌then◌else◌, Option, None, Some, option_and_then}
use Rattle.zt_rows.specs.declared.keys.RowKey.{RowKey}
use Rattle.zt_rows.specs.declared.keys.RowKey.TheVariants as key
use Rattle.zt_rows.specs.declared.rows.Life.{Life}
use Rattle.zt_rows.specs.declared.rows.Row.{Row}
use Rattle.zt_rows.specs.declared.rows.Row.TheVariants as rows
use Rattle.zt_rows.specs.State.{State, row, put}

-- the state with what f leaves under this one key
abbrev pub left_behind : (RowKey → Row → Option Row) → State → RowKey → State
left_behind f S k = put S k (option_and_then (f k) (row S k))

-- what has ended has no parent, has ended so, and is critical to nothing
abbrev pub with_end : (ℕ → Bool) → Life → RowKey → Row → Option Row
with_end ending how (key.Object x) (rows.Object o) =
    Some (rows.Object (record o { link = if ending x then 0 else o.link; life = if ending x then how else o.life; critical = if ending x then 0 else o.critical }))
with_end ending how k r = Some r

-- this one has ended so
abbrev pub with_life : ℕ → Life → RowKey → Row → Option Row
with_life process how (key.Object x) (rows.Object o) = Some (rows.Object (record o { life = if x == process then how else o.life }))
with_life process how k r = Some r

-- what has ended has no entries
abbrev pub without_tables : (ℕ → Bool) → RowKey → Row → Option Row
without_tables ending (key.Entry p h) (rows.Entry held) = if ending p then None else Some (rows.Entry held)
without_tables ending k r = Some r

-- what has ended waits for nothing
abbrev pub without_waits : (ℕ → Bool) → RowKey → Row → Option Row
without_waits ending (key.Wait n) (rows.Wait w) = if ending w.process then None else Some (rows.Wait w)
without_waits ending k r = Some r
