-- What the entries of processes held that have ended.
use Rattle.std.specs.Prelude.{ℕ, Bool, if◌then◌else◌, List, Option, None, Some}
use Rattle.std.specs.List.{filter_map}
use Rattle.zt_rows.specs.declared.keys.RowKey.{RowKey}
use Rattle.zt_rows.specs.declared.keys.RowKey.TheVariants as key
use Rattle.zt_rows.specs.declared.rows.Held.{Held}
use Rattle.zt_rows.specs.declared.rows.Row.{Row}
use Rattle.zt_rows.specs.declared.rows.Row.TheVariants as rows
use Rattle.zt_rows.specs.State.{State}

-- ---- what the entries held

abbrev pub held_at : (ℕ → Bool) → RowKey × Row → Option Held
held_at ending (key.Entry p h, rows.Entry held) = if ending p then Some held else None
held_at ending _ = None

-- what the entries of these processes hold, by rising process and then by rising value
unfoldable pub handles_of : State → (ℕ → Bool) → List Held
handles_of S ending = filter_map (held_at ending) S.rows
