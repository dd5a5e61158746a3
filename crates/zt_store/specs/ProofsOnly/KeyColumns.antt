-- Columns of keys: those that differ in their last number alone, as the entries of one process. Used by proofs only.
use Rattle.std.specs.Prelude.{ℕ, ◌+◌, ◌^◌, Bool, nat_lt, if◌then◌else◌, Option, None, Some}
use Rattle.std.specs.Ordering.{is_le}
use Rattle.zt_rows.specs.declared.keys.RowKey.{RowKey}
use Rattle.zt_rows.specs.declared.keys.RowKey.TheVariants as key
use Rattle.zt_rows.specs.Keys.{rowkey_cmp}
use Rattle.zt_store.specs.declared.key_columns.KeyColumn.{KeyColumn}
use Rattle.zt_store.specs.declared.key_columns.KeyColumn.TheVariants as column

-- the key with this number
abbrev pub key_in : KeyColumn → ℕ → RowKey
key_in column.Objects n = key.Object n
key_in (column.Entries process) n = key.Entry process n
key_in (column.Messages endpoint) n = key.Msg endpoint n
key_in (column.Packets port) n = key.Packet port n
key_in column.Waits n = key.Wait n

-- from this number on the column has no key that can be asked for
abbrev pub numbers_end : KeyColumn → ℕ
numbers_end (column.Entries process) = 2 ^ 32
numbers_end _ = 2 ^ 64

-- the column of the next keys, where no owner has a koid from `owners` on
abbrev pub next_column : ℕ → KeyColumn → Option KeyColumn
next_column owners column.Objects = Some (column.Entries 0)
next_column owners (column.Entries x) = Some (if nat_lt x owners then column.Entries (x + 1) else column.Messages 0)
next_column owners (column.Messages x) = Some (if nat_lt x owners then column.Messages (x + 1) else column.Packets 0)
next_column owners (column.Packets x) = Some (if nat_lt x owners then column.Packets (x + 1) else column.Waits)
next_column owners column.Waits = None

-- the key is the low one or above it
abbrev pub is_from : RowKey → RowKey → Bool
is_from low k = is_le (rowkey_cmp low k)
