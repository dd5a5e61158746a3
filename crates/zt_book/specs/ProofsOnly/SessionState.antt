-- The clients of a book with the history that they stand in, and the tree that it had before the last command.
-- Used by proofs only.
use Rattle.std.specs.Prelude.{◌≡◌, ℕ, ◌-◌, ◌≤◌, ◌<◌, ⊤, Bool, true, false, List, All, length, slice_set, slice_index_or, ◌+◌, Option, None, Some, IsSome}
use Rattle.zt_history.specs.Timeline.{Point, Timeline}
use Rattle.zt_history.specs.Tree.{Tree, last_moment, opening_tree}
use Rattle.zt_history.specs.ProofsOnly.Branches.{without_last}
use Rattle.zt_book.specs.declared.book.LastServed.{LastServed}
use Rattle.zt_book.specs.declared.client.Client.{Client}
use Rattle.zt_book.specs.declared.client.Cursor.{Cursor}
use Rattle.zt_book.specs.declared.client.Cursor.TheVariants.{Follows, At}
use Rattle.zt_book.specs.declared.log.Recorded.{Recorded}
use Rattle.zt_book.specs.Session.{Session, first_client, most_clients, most_rows}
use Rattle.zt_book.specs.Log.{BookView, SessionLog, IsCounted, IsWholeLog, Replays}

-- ---- where clients can stand

abbrev pub IsCursor : Tree → Cursor → Type 0
IsCursor t (Follows branch) = branch < length t.branches
IsCursor t (At moment) = moment ≤ last_moment t

abbrev pub IsPinnedMoment : Tree → Option ℕ → Type 0
IsPinnedMoment t (Some moment) = moment ≤ last_moment t
IsPinnedMoment t None = ⊤

pub record IsClient (t : Tree) (c : Client) : Type 0 where
  pub cursor : IsCursor t c.cursor
  pub pinned : IsPinnedMoment t c.pinned
  pub rows : c.rows ≤ most_rows

abbrev pub Stand : Session → Type 0
Stand M = All (IsClient M.tree) M.clients

-- ---- the clients and their history

-- `at` is the moment at which the store stands, `earlier` the tree before the last command
pub record SessionStateView : Type 0 where
  pub session : Session
  pub at : ℕ
  pub earlier : Tree

abbrev pub tree_before : Option Point → Tree
tree_before (Some p) = p.tree
tree_before None = opening_tree

-- the last command may have changed the history
abbrev pub earlier_of : Bool → Timeline → Tree
earlier_of true h = tree_before h.before
earlier_of false h = h.tree

abbrev pub session_state_view : Timeline → List Client → Bool → SessionStateView
session_state_view h clients grown = record {
  session = record { tree = h.tree; clients = clients };
  at = h.position;
  earlier = earlier_of grown h;
}

pub record AreClients (h : Timeline) (clients : List Client) (grown : Bool) : Type 0 where
  pub few : length clients ≤ most_clients
  pub stand : Stand (record { tree = h.tree; clients = clients })
  pub can_retract : grown ≡ true → IsSome h.before

-- the session with the earlier tree, where this client was so
abbrev pub session_before : SessionStateView → ℕ → Client → Session
session_before d client was = record { tree = d.earlier; clients = slice_set d.session.clients (client - 1) was }

-- this client is known to be otherwise, and one command more was answered to it
pub record IsOneMore (old new : List Client) (client : ℕ) : Type 0 where
  pub to : Client
  pub is : new ≡ slice_set old (client - 1) to
  pub rows : to.rows ≡ (slice_index_or old (client - 1) first_client).rows + 1

-- ---- a book

abbrev pub before_of : SessionStateView → List Recorded → Option LastServed → Option SessionLog
before_of d log (Some last) = Some (record { session = session_before d last.client last.was; log = without_last log })
before_of d log None = None

abbrev pub kept_of : SessionStateView → List Recorded → Option LastServed → BookView
kept_of d log last = record { session = d.session; log = log; before = before_of d log last }

-- the last command can be taken back: what was answered before it replays from the same session
pub record CanTakeBack (base : Session) (d : SessionStateView) (log : List Recorded) (last : LastServed) : Type 0 where
  pub numbered : 1 ≤ last.client
  pub known : last.client ≤ length d.session.clients
  pub some : 0 < length log
  pub stand : Stand (session_before d last.client last.was)
  pub counted : IsCounted (session_before d last.client last.was) (without_last log)
  pub replays : Replays base (without_last log) (session_before d last.client last.was)

abbrev pub IsLastServed : Session → SessionStateView → List Recorded → Option LastServed → Type 0
IsLastServed base d log (Some last) = CanTakeBack base d log last
IsLastServed base d log None = ⊤

pub record IsBook (d : SessionStateView) (log : List Recorded) (last : Option LastServed) : Type 0 where
  pub counted : IsCounted d.session log
  pub whole : IsWholeLog d.session log
  pub served : IsLastServed whole.base d log last
