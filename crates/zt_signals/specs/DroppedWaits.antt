-- Waits taken away, and nothing else: those that a process made on a handle, and those that are cancelled.
use Rattle.std.specs.Prelude.{ℕ, Bool, false, ◌==◌, ◌&&◌, if◌then◌else◌, Option, None, Some}
use Rattle.zt_rows.specs.declared.keys.RowKey.{RowKey}
use Rattle.zt_rows.specs.declared.keys.RowKey.TheVariants as key
use Rattle.zt_rows.specs.declared.rows.Row.{Row}
use Rattle.zt_rows.specs.declared.rows.Row.TheVariants as rows
use Rattle.zt_rows.specs.declared.rows.Wait.{Wait}

-- a wait that passes
abbrev pub is_wait_where : (Wait → Bool) → RowKey → Row → Bool
is_wait_where test (key.Wait n) (rows.Wait w) = test w
is_wait_where test _ _ = false

-- what is left of a row when the waits that pass go
abbrev pub without_waits : (Wait → Bool) → RowKey → Row → Option Row
without_waits test k r = if is_wait_where test k r then None else Some r

-- ---- a handle

-- process p made it on its handle h
abbrev pub made_on : ℕ → ℕ → Wait → Bool
made_on p h w = (w.process == p) && (w.handle == h)

-- what is left of a row when those waits go
abbrev pub without_waits_on : ℕ → ℕ → RowKey → Row → Option Row
without_waits_on p h = without_waits (made_on p h)

-- ---- a key

-- its packet will come to the port x under the key, and process p made it on its handle h
abbrev pub made_under : ℕ → ℕ → ℕ → ℕ → Wait → Bool
made_under x p h packet_key w = (w.port == x) && (w.process == p) && (w.handle == h) && (w.key == packet_key)

abbrev pub is_cancelled_wait : ℕ → ℕ → ℕ → ℕ → RowKey → Row → Bool
is_cancelled_wait x p h packet_key = is_wait_where (made_under x p h packet_key)

-- what is left of a row when those waits go
abbrev pub without_cancelled_waits : ℕ → ℕ → ℕ → ℕ → RowKey → Row → Option Row
without_cancelled_waits x p h packet_key = without_waits (made_under x p h packet_key)
