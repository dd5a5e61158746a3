-- Rows put one behind another, in the order of their keys.
use Rattle.std.specs.Prelude.{◌≡◌, ℕ, ◌<◌, min, Bool, true, ◌&&◌, List, [], ◌∷◌, filter, Option, None, Some, IsSome}
use Rattle.std.specs.Option.{MatchOption}
use Rattle.std.specs.Ordering.{is_lt}
use Rattle.zt_rows.specs.declared.keys.RowKey.{RowKey}
use Rattle.zt_rows.specs.declared.keys.RowKey.TheVariants as key
use Rattle.zt_rows.specs.declared.rows.Row.{Row}
use Rattle.zt_rows.specs.Keys.{rowkey_cmp}
use Rattle.zt_rows.specs.State.{State, row}
use Rattle.zt_index.specs.Chains.{IsNext}
use Rattle.zt_index.specs.Criteria.{is_at, is_for, waits_where}
use Rattle.zt_look.specs.declared.object_rows.Owned.{Owned}
use Rattle.zt_look.specs.declared.object_rows.Owned.TheVariants as part
use Rattle.zt_look.specs.ObjectLook.{is_message_of, is_packet_of}

abbrev pub key_of : Owned → ℕ → ℕ → RowKey
key_of part.Messages x n = key.Msg x n
key_of part.Packets x n = key.Packet x n

abbrev pub is_owned : Owned → ℕ → RowKey × Row → Bool
is_owned part.Messages x e = is_message_of x e
is_owned part.Packets x e = is_packet_of x e

-- the least number of such a row, or none where there is no row under any
abbrev pub IsFirstOwned : State → Owned → ℕ → Option ℕ → Type 0
IsFirstOwned S o x found =
    MatchOption found ((n : ℕ) → row S (key_of o x n) ≡ None)
    (λ n. IsSome (row S (key_of o x n)) × ((m : ℕ) → m < n → row S (key_of o x m) ≡ None))

-- the row under the key, if there is one
abbrev pub under : RowKey → Option Row → List (RowKey × Row)
under k (Some r) = (k, r) ∷ []
under k None = []

-- before the next key, if there is a next one
abbrev pub is_before : Option RowKey → RowKey → Bool
is_before None k = true
is_before (Some next) k = is_lt (rowkey_cmp k next)

-- those that pass of the rows before the next key
abbrev pub rows_before : (RowKey × Row → Bool) → Option RowKey → List (RowKey × Row) → List (RowKey × Row)
rows_before test next es = filter (λ e. is_before next e.0 && test e) es

-- the lesser of two numbers, or the one that is there
abbrev pub lesser : Option ℕ → Option ℕ → Option ℕ
lesser (Some x) (Some y) = Some (min x y)
lesser (Some x) None = Some x
lesser None b = b

-- the key of the wait of this number, if there is one
abbrev pub wait_key : Option ℕ → Option RowKey
wait_key (Some n) = Some (key.Wait n)
wait_key None = None

-- behind the low number, these are the least of the waits for the port, and of those on handles that name it
pub record AreNextWaits (S : State) (x : ℕ) (low by_port by_handle : Option ℕ) : Type 0 where
  pub port : IsNext (waits_where S (is_for x)) low by_port
  pub handle : IsNext (waits_where S (is_at S x)) low by_handle
