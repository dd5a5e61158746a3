-- What a store may be asked for beyond its rows: the next key, whether a row suits a key, and whether the
-- numbers that calls give out still fit their types.
use Rattle.std.specs.Prelude.{◌≡◌, ℕ, ◌+◌, ◌-◌, ◌*◌, ◌^◌, ◌≤◌, Bool, true, false, Option, None, Some, find, ⊤}
use Rattle.std.specs.Ordering.{is_lt}
use Rattle.zt_bits.specs.declared.kinds.Kind.{Kind}
use Rattle.zt_bits.specs.declared.kinds.Kind.TheVariants as kind
use Rattle.zt_rows.specs.declared.keys.RowKey.{RowKey}
use Rattle.zt_rows.specs.declared.keys.RowKey.TheVariants as key
use Rattle.zt_rows.specs.declared.rows.Row.{Row}
use Rattle.zt_rows.specs.declared.rows.Row.TheVariants as rows
use Rattle.zt_rows.specs.declared.rows.ObjectRow.{ObjectRow}
use Rattle.zt_rows.specs.Keys.{rowkey_cmp}
use Rattle.zt_rows.specs.State.{State}
use Rattle.zt_rows.specs.Reads.{counters, object}
use Rattle.zt_rows.specs.Tests.{count_row}
use Rattle.zt_rows.specs.Change.{keys}

-- the key is above the low one, if there is a low one
abbrev pub is_above : Option RowKey → RowKey → Bool
is_above None k = true
is_above (Some low) k = is_lt (rowkey_cmp low k)

-- the least key of S above the low one
abbrev pub next_key : State → Option RowKey → Option RowKey
next_key S low = find (is_above low) (keys S)

-- a row may stand under a key of its own variant
abbrev pub suits : RowKey → Row → Bool
suits key.Counters (rows.Counters _) = true
suits (key.Object _) (rows.Object _) = true
suits (key.Entry _ _) (rows.Entry _) = true
suits (key.Msg _ _) (rows.Msg _) = true
suits (key.Packet _ _) (rows.Packet _) = true
suits (key.Wait _) (rows.Wait _) = true
suits _ _ = false

-- the row, or none, may be put under the key: Counters never goes
abbrev pub SuitsKey : RowKey → Option Row → Type 0
SuitsKey k (Some r) = suits k r ≡ true
SuitsKey key.Counters None = false ≡ true
SuitsKey _ None = ⊤

-- what an owner gives out next leaves room for one more call
abbrev pub NextFits : Kind → ℕ → Type 0
NextFits kind.Process next = next ≤ 2 ^ 30 - 64
NextFits kind.Channel next = next ≤ 2 ^ 62
NextFits kind.Port next = next ≤ 2 ^ 62
NextFits _ next = ⊤

-- every number that a call may raise leaves room for one more call
pub record HasRoom (S : State) : Type 0 where
  pub koids : (counters S).next_koid ≤ 2 ^ 62
  pub waits : (counters S).next_wait ≤ 2 ^ 62
  pub owners : (x : ℕ) (o : ObjectRow) → object S x ≡ Some o → NextFits o.kind o.next

-- ---- what calls give out

abbrev pub is_wait : RowKey → Row → Bool
is_wait (key.Wait _) (rows.Wait _) = true
is_wait _ _ = false

-- how far the next number of an owner is after so many calls, where a port got no more than so many packets
abbrev pub NextBy : ℕ → ℕ → Kind → ℕ → Type 0
NextBy calls packets kind.Process next = next ≤ 64 * calls + 1
NextBy calls packets kind.Channel next = next ≤ calls
NextBy calls packets kind.Port next = next ≤ packets
NextBy calls packets _ next = ⊤

-- no more numbers were given out than so many calls give: two koids and one wait each, and 64 handles to a
-- process, a message to a channel, and no more than so many packets to a port
pub record HasGiven (calls packets : ℕ) (S : State) : Type 0 where
  pub koids : (counters S).next_koid ≤ 2 * calls + 1026
  pub waits : (counters S).next_wait ≤ calls
  pub waiting : count_row is_wait S ≤ calls
  pub owners : (x : ℕ) (o : ObjectRow) → object S x ≡ Some o → NextBy calls packets o.kind o.next

-- the most calls that lead to one state: as many as a history has moments
abbrev pub most_calls : ℕ
most_calls = 1048576

-- no more was given out than so many calls can: each gives a port at most one packet of its own and one for every wait
abbrev pub HasSpent : ℕ → State → Type 0
HasSpent calls S = HasGiven calls (2 * most_calls * calls) S
