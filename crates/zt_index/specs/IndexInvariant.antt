-- The waits on a handle, those for a port, those at an object and those of a process, and the live jobs and processes
-- below a job, by the rows: and the buckets by which they are found.
use Rattle.std.specs.Prelude.{◌≡◌, ◌+◌, ◌*◌, ◌/◌, ◌%◌, ◌≤◌, ◌||◌, ⊤, ℕ, length, Option, None, Some, if◌then◌else◌}
use Rattle.std.specs.Option.{option_and_then, option_map}
use Rattle.zt_rows.specs.declared.keys.RowKey.{RowKey}
use Rattle.zt_rows.specs.declared.keys.RowKey.TheVariants as key
use Rattle.zt_rows.specs.declared.rows.Held.{Held}
use Rattle.zt_rows.specs.declared.rows.ObjectRow.{ObjectRow}
use Rattle.zt_rows.specs.declared.rows.Wait.{Wait}
use Rattle.zt_rows.specs.Reads.{entry, is_live_job, is_live_process, object, wait}
use Rattle.zt_rows.specs.State.{State}
use Rattle.zt_cells.specs.CellsView.{CellsView}
use Rattle.zt_index.specs.declared.index.RowChains.{RowChains}
use Rattle.zt_index.specs.Chains.{bucket_at}

-- ---- buckets

abbrev pub handle_bucket : ℕ → ℕ → ℕ
handle_bucket p h = (p % 8192 * 5063 + h / 4) % 8192

abbrev pub koid_bucket : ℕ → ℕ
koid_bucket x = x % 8192

abbrev pub bucket_on : Wait → ℕ
bucket_on w = handle_bucket w.process w.handle

abbrev pub bucket_for : Wait → ℕ
bucket_for w = koid_bucket w.port

abbrev pub bucket_by : Wait → ℕ
bucket_by w = koid_bucket w.process

abbrev pub held_bucket : Held → ℕ
held_bucket held = koid_bucket held.koid

-- the bucket of what the wait's handle names, or none where there is no such handle
abbrev pub bucket_of : State → Wait → Option ℕ
bucket_of S w = option_map held_bucket (entry S w.process w.handle)

-- the bucket of a live job or process, that of its parent; none of what is no live job or process
abbrev pub bucket_below : ObjectRow → Option ℕ
bucket_below o = if is_live_job o || is_live_process o then Some (koid_bucket o.link) else None

-- so many waits can be put into buckets
pub record IsRoomy (waits : ℕ) (index : RowChains) : Type 0 where
  pub on : waits ≤ length index.handles
  pub to : waits ≤ length index.ports
  pub at : waits ≤ length index.objects
  pub by : waits ≤ length index.processes

-- each wait is in the bucket of its handle, in that of its port, in that of what its handle names and in that of its
-- process, and each live job and process in that of its parent; and as many waits and objects as there are places for
-- can be put into buckets
pub record IsIndexed (s : CellsView) (index : RowChains) : Type 0 where
  pub on : (n : ℕ) → bucket_at index.handles n ≡ option_map bucket_on (wait s.state n)
  pub to : (n : ℕ) → bucket_at index.ports n ≡ option_map bucket_for (wait s.state n)
  pub at : (n : ℕ) → bucket_at index.objects n ≡ option_and_then (bucket_of s.state) (wait s.state n)
  pub by : (n : ℕ) → bucket_at index.processes n ≡ option_map bucket_by (wait s.state n)
  pub below : (x : ℕ) → bucket_at index.parents x ≡ option_and_then bucket_below (object s.state x)
  pub roomy : IsRoomy s.sizes.waits index
  pub tasks : s.sizes.objects ≤ length index.parents

-- the wait or the object under the key, if it is one of those, can be put into buckets
abbrev pub HasBuckets : RowKey → RowChains → Type 0
HasBuckets (key.Wait n) index = IsRoomy (n + 1) index
HasBuckets (key.Object x) index = x + 1 ≤ length index.parents
HasBuckets _ index = ⊤
