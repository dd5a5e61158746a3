-- What is told of one object in a state: what keeps it, and the rows of what waits in it, for it and on it. This project's
-- own.
use Rattle.std.specs.Prelude.{◌≡◌, ℕ, Bool, false, ◌==◌, ◌||◌, if◌then◌else◌, List, [], filter, Ok}
use Rattle.zt_rows.specs.declared.calls.Happening.TheVariants as happening
use Rattle.zt_rows.specs.declared.keys.RowKey.{RowKey}
use Rattle.zt_rows.specs.declared.keys.RowKey.TheVariants as key
use Rattle.zt_rows.specs.declared.rows.Row.{Row}
use Rattle.zt_rows.specs.declared.rows.Row.TheVariants as rows
use Rattle.zt_rows.specs.declared.supports.Support.{Support}
use Rattle.zt_rows.specs.Reads.{object}
use Rattle.zt_rows.specs.State.{State}
use Rattle.zt_rows.specs.Support.{supports}
use Rattle.zt_rows.specs.Tests.{exists}
use Rattle.zt_index.specs.Criteria.{is_at, is_for}
use Rattle.zt_history.specs.Tree.{Made, state_at}
use Rattle.zt_queries.specs.HappeningTimes.{when_on}
use Rattle.zt_queries.specs.LaterMoments.{TellsWhenLeaked}
use Rattle.zt_look.specs.declared.object_look.ObjectLook.{ObjectLook}

-- what keeps the object: nothing keeps what is gone
abbrev pub holders_of : State → ℕ → List Support
holders_of S x = if exists S x then supports S x else []

-- the rows that pass, with their keys, in the keys' order
abbrev pub rows_where : State → (RowKey × Row → Bool) → List (RowKey × Row)
rows_where S test = filter test S.rows

-- a message in the queue of the endpoint
abbrev pub is_message_of : ℕ → RowKey × Row → Bool
is_message_of x (key.Msg y n, r) = y == x
is_message_of x _ = false

-- a packet in the port
abbrev pub is_packet_of : ℕ → RowKey × Row → Bool
is_packet_of x (key.Packet y n, r) = y == x
is_packet_of x _ = false

-- a wait for the port, or on a handle that names the object
abbrev pub is_wait_about : State → ℕ → RowKey × Row → Bool
is_wait_about S x (key.Wait n, rows.Wait w) = is_for x w || is_at S x w
is_wait_about S x _ = false

-- what is told of the object at a moment, and when each of the four happened to it on the path there
pub record IsObjectLook (made : List Made) (at x : ℕ) (look : ObjectLook) : Type 0 where
  pub koid : look.koid ≡ x
  pub row : look.row ≡ object (state_at made at) x
  pub holders : look.holders ≡ holders_of (state_at made at) x
  pub messages : look.messages.items ≡ rows_where (state_at made at) (is_message_of x)
  pub packets : look.packets.items ≡ rows_where (state_at made at) (is_packet_of x)
  pub waits : look.waits.items ≡ rows_where (state_at made at) (is_wait_about (state_at made at) x)
  pub made_at : when_on happening.Made made at x ≡ Ok look.made
  pub ended_at : when_on happening.Ended made at x ≡ Ok look.ended
  pub peer_closed_at : when_on happening.PeerClosed made at x ≡ Ok look.peer_closed
  pub leaked_at : when_on happening.Leaked made at x ≡ Ok look.leaked
  pub tells_when : TellsWhenLeaked made at x look.leaked
