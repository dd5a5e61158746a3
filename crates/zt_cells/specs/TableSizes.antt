-- Where the rows of a store can stand: how many places its tables have. A place, once there, is never given up.
use Rattle.std.specs.Prelude.{max, ℕ, ◌+◌, ◌/◌, ◌%◌, ◌==◌, nat_lt, if◌then◌else◌, Bool, List, [], ◌∷◌, length, slice_index_or}
use Rattle.zt_rows.specs.declared.keys.RowKey.{RowKey}
use Rattle.zt_rows.specs.declared.keys.RowKey.TheVariants as key

-- the places for objects and for waits, from 0 on; and by owner those for messages and for packets. The entries of
-- a process stand in four tables, by what a handle value leaves when it is divided by four.
pub record TableSizes : Type 0 where
  pub objects : ℕ
  pub entries : List (List ℕ)
  pub messages : List ℕ
  pub packets : List ℕ
  pub waits : ℕ

-- no place but that of the counters
abbrev pub no_sizes : TableSizes
no_sizes = record { objects = 0; entries = [] ∷ [] ∷ [] ∷ [] ∷ []; messages = []; packets = []; waits = 0 }

-- which place of its table a key has
abbrev pub place_of : RowKey → ℕ
place_of key.Counters = 0
place_of (key.Object x) = x
place_of (key.Entry p h) = h / 4
place_of (key.Msg e n) = n
place_of (key.Packet p n) = n
place_of (key.Wait n) = n

-- how many places the table of a key has
abbrev pub length_at : TableSizes → RowKey → ℕ
length_at s key.Counters = 1
length_at s (key.Object x) = s.objects
length_at s (key.Entry p h) = slice_index_or (slice_index_or s.entries (h % 4) []) p 0
length_at s (key.Msg e n) = slice_index_or s.messages e 0
length_at s (key.Packet p n) = slice_index_or s.packets p 0
length_at s (key.Wait n) = s.waits

-- there is a place for the key's row
unfoldable pub has_place : TableSizes → RowKey → Bool
has_place s k = nat_lt (place_of k) (length_at s k)

-- how many places for waits there can be after those of the key were made
abbrev pub waits_after : RowKey → ℕ → ℕ
waits_after (key.Wait n) waits = max waits (n + 1)
waits_after _ waits = waits

-- how many places for objects there can be after those of the key were made
abbrev pub objects_after : RowKey → ℕ → ℕ
objects_after (key.Object x) objects = max objects (x + 1)
objects_after _ objects = objects

-- how many places for packets the port x can have after those of the key were made
abbrev pub packets_after : RowKey → ℕ → ℕ → ℕ
packets_after (key.Packet p n) x packets = if p == x then max packets (n + 1) else packets
packets_after _ x packets = packets

-- how many owners have places for entries, in whichever of the four tables by owner
unfoldable pub most_owners : List (List ℕ) → ℕ
most_owners sizes =
    max (max (length (slice_index_or sizes 0 [])) (length (slice_index_or sizes 1 []))) (max (length (slice_index_or sizes 2 [])) (length (slice_index_or sizes 3 [])))

-- the most places that the owner has in one of these four
unfoldable pub most_places : List (List ℕ) → ℕ → ℕ
most_places sizes x =
    max (max (slice_index_or (slice_index_or sizes 0 []) x 0) (slice_index_or (slice_index_or sizes 1 []) x 0)) (max (slice_index_or (slice_index_or sizes 2 []) x 0) (slice_index_or (slice_index_or sizes 3 []) x 0))

-- from this koid on no owner has a place
abbrev pub owners_in : TableSizes → ℕ
owners_in s = max (most_owners s.entries) (max (length s.messages) (length s.packets))
