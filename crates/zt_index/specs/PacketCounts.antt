-- How many packets of users are in each port: the numbers that are kept beside the rows.
use Rattle.std.specs.Prelude.{◌≡◌, ◌≤◌, ◌<◌, ◌==◌, ◌&&◌, ⊤, if◌then◌else◌, ℕ, Bool, false, List, length, Option, Some, slice_index_or}
use Rattle.zt_rows.specs.declared.keys.RowKey.{RowKey}
use Rattle.zt_rows.specs.declared.keys.RowKey.TheVariants as key
use Rattle.zt_rows.specs.declared.rows.Row.{Row}
use Rattle.zt_rows.specs.declared.rows.Row.TheVariants as rows
use Rattle.zt_rows.specs.PortCalls.{is_user, pending}
use Rattle.zt_cells.specs.CellsView.{CellsView}

-- the row is there and a packet of a user
abbrev pub is_user_packet : Option Row → Bool
is_user_packet (Some (rows.Packet k)) = is_user k
is_user_packet _ = false

-- one for the port of the packet under the key, where it is one of a user
abbrev pub counted_for : ℕ → RowKey → Bool → ℕ
counted_for x (key.Packet p n) user = if (p == x) && user then 1 else 0
counted_for x _ user = 0

-- the number by a koid, 0 beyond the end of the list, is that of the packets of users in this port; and each port that
-- has places for packets has a number
pub record ArePending (s : CellsView) (numbers : List ℕ) : Type 0 where
  pub counted : (x : ℕ) → slice_index_or numbers x 0 ≡ pending s.state x
  pub reached : (x : ℕ) → length numbers ≤ x → slice_index_or s.sizes.packets x 0 ≡ 0

-- the port of the packet under the key, if it is a packet's, has a number
abbrev pub HasNumber : RowKey → List ℕ → Type 0
HasNumber (key.Packet x n) numbers = x < length numbers
HasNumber _ numbers = ⊤
