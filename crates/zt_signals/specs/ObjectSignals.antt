-- One object's signals written, and nothing else: those that a call sets, and those that follow from the rows.
use Rattle.std.specs.Prelude.{ℕ, Option, None, Some}
use Rattle.zt_rows.specs.declared.keys.RowKey.TheVariants as key
use Rattle.zt_rows.specs.declared.rows.ObjectRow.{ObjectRow}
use Rattle.zt_rows.specs.declared.rows.Row.TheVariants as rows
use Rattle.zt_rows.specs.State.{State, put}
use Rattle.zt_rows.specs.Reads.{object}
use Rattle.zt_rows.specs.ObjectCalls.{set_signals}
use Rattle.zt_rows.specs.Settle.{refreshed}

abbrev pub signals_set_of : Option ObjectRow → State → ℕ → ℕ → ℕ → State
signals_set_of (Some o) S x clear set = set_signals x o clear set S
signals_set_of None S x clear set = S

-- the object's signals without `clear` and then with `set`; without the object nothing changes
abbrev pub signals_set : State → ℕ → ℕ → ℕ → State
signals_set S x clear set = signals_set_of (object S x) S x clear set

abbrev pub refreshed_object_of : Option ObjectRow → State → ℕ → State
refreshed_object_of (Some o) S x = put S (key.Object x) (refreshed S (key.Object x) (rows.Object o))
refreshed_object_of None S x = S

-- the object's derived signals anew; without the object nothing changes
abbrev pub refreshed_object : State → ℕ → State
refreshed_object S x = refreshed_object_of (object S x) S x
