-- One entry of a process's table taken away, and a handle with other rights.
use Rattle.std.specs.Prelude.{ℕ, None}
use Rattle.zt_bits.specs.declared.right_bits.Rights.{Rights}
use Rattle.zt_rows.specs.declared.keys.RowKey.TheVariants as key
use Rattle.zt_rows.specs.declared.rows.Held.{Held}
use Rattle.zt_rows.specs.State.{State, put}

-- the state without what the process holds by this handle value
abbrev pub without_entry : State → ℕ → ℕ → State
without_entry S p h = put S (key.Entry p h) None

-- a handle to the same object with these rights
abbrev pub with_rights : Held → Rights → Held
with_rights held rights = record held { rights = rights }
