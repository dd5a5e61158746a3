-- The waits on a handle, those for a port, those at an object and those of a process, and the live jobs and processes
-- below a job, by the rows; and the handles of a process.
use Rattle.std.specs.Prelude.{◌==◌, ◌&&◌, ◌||◌, ℕ, Bool, false, Option, None, Some, is_some}
use Rattle.std.specs.Option.{option_map_or}
use Rattle.zt_rows.specs.declared.keys.RowKey.TheVariants as key
use Rattle.zt_rows.specs.declared.rows.Held.{Held}
use Rattle.zt_rows.specs.declared.rows.ObjectRow.{ObjectRow}
use Rattle.zt_rows.specs.declared.rows.Wait.{Wait}
use Rattle.zt_rows.specs.Reads.{entry, is_live_job, is_live_process, object, wait}
use Rattle.zt_rows.specs.State.{State, row}

-- the process made the wait on this handle
abbrev pub is_on : ℕ → ℕ → Wait → Bool
is_on p h w = (w.process == p) && (w.handle == h)

-- the packet of the wait will come to this port
abbrev pub is_for : ℕ → Wait → Bool
is_for x w = w.port == x

-- the process made the wait
abbrev pub is_by : ℕ → Wait → Bool
is_by p w = w.process == p

-- there is an entry, and it names the object
abbrev pub names : ℕ → Option Held → Bool
names x (Some held) = held.koid == x
names x None = false

-- the wait is on a handle that names the object
abbrev pub is_at : State → ℕ → Wait → Bool
is_at S x w = names x (entry S w.process w.handle)

-- there is a wait of this number, and it passes
abbrev pub waits_where : State → (Wait → Bool) → ℕ → Bool
waits_where S test n = option_map_or test (wait S n) false

-- a live job or process whose parent is x
abbrev pub is_below : ℕ → ObjectRow → Bool
is_below x o = (is_live_job o || is_live_process o) && (o.link == x)

-- there is an object of this koid, and it passes
abbrev pub objects_where : State → (ObjectRow → Bool) → ℕ → Bool
objects_where S test x = option_map_or test (object S x) false

-- the process has an entry under this value
abbrev pub has_entry : State → ℕ → ℕ → Bool
has_entry S p h = is_some (row S (key.Entry p h))

-- the port has a packet under this number
abbrev pub has_packet : State → ℕ → ℕ → Bool
has_packet S x n = is_some (row S (key.Packet x n))
