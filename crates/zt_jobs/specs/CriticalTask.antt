-- Writing which job a process is critical to.
use Rattle.std.specs.Prelude.{ℕ, Option, None, Some}
use Rattle.zt_rows.specs.declared.keys.RowKey.TheVariants as key
use Rattle.zt_rows.specs.declared.rows.ObjectRow.{ObjectRow}
use Rattle.zt_rows.specs.declared.rows.Row.TheVariants as rows
use Rattle.zt_rows.specs.State.{State, put}
use Rattle.zt_rows.specs.Reads.{object}

abbrev pub with_critical : State → ℕ → ℕ → Option ObjectRow → State
with_critical S x job (Some o) = put S (key.Object x) (Some (rows.Object (record o { critical = job })))
with_critical S x job None = S

-- the object of this koid is critical to the job, and all else is as it was; where there is none, all is
abbrev pub made_critical : State → ℕ → ℕ → State
made_critical S x job = with_critical S x job (object S x)
