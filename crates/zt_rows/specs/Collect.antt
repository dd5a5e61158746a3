-- Removal of what nothing supports, round by round, until all that is left is supported. That an object goes
-- with its last handle is Fuchsia's reference of kernel objects' lifetime; unreachable cycles have support and
-- stay. The rounds are this project's own form.
use Rattle.std.specs.Prelude.{ℕ, zero, suc, Bool, not, ◌&&◌, if◌then◌else◌, length, Option, None, Some}
use Rattle.zt_rows.specs.declared.keys.RowKey.{RowKey}
use Rattle.zt_rows.specs.declared.keys.RowKey.TheVariants as key
use Rattle.zt_rows.specs.declared.rows.ObjectRow.{ObjectRow}
use Rattle.zt_rows.specs.declared.rows.Row.{Row}
use Rattle.zt_rows.specs.declared.rows.Row.TheVariants as rows
use Rattle.zt_rows.specs.State.{State, change}
use Rattle.zt_rows.specs.Reads.{objects}
use Rattle.zt_rows.specs.Tests.{exists, is_endpoint}
use Rattle.zt_rows.specs.Support.{is_supported}

-- an object that stays while others go: an endpoint whose peer goes has no peer
abbrev pub unlinked : (ℕ → Bool) → ObjectRow → ObjectRow
unlinked going o = record o { link = if is_endpoint o.kind && going o.link then 0 else o.link }

-- what is left under a key: objects that go take with them their messages, their packets and the waits for
-- their port
abbrev pub left : (ℕ → Bool) → RowKey → Row → Option Row
left going (key.Object x) (rows.Object o) = if going x then None else Some (rows.Object (unlinked going o))
left going (key.Msg e n) (rows.Msg m) = if going e then None else Some (rows.Msg m)
left going (key.Packet p n) (rows.Packet k) = if going p then None else Some (rows.Packet k)
left going (key.Wait n) (rows.Wait w) = if going w.port then None else Some (rows.Wait w)
left going k r = Some r

-- the state without the objects of a set
unfoldable pub without : State → (ℕ → Bool) → State
without S going = change (left going) S

-- the object is there and nothing supports it
unfoldable pub goes : State → ℕ → Bool
goes S x = exists S x && not (is_supported S x)

-- so many rounds, each of which removes at once all that goes
unfoldable pub rounds : ℕ → State → State
rounds zero S = S
rounds (suc n) S = rounds n (without S (goes S))

-- as many rounds as there are objects: more would remove nothing more
unfoldable pub collect : State → State
collect S = rounds (length (objects S)) S
