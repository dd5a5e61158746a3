-- What lies under the lock of a shared book.
use Rattle.std.specs.Prelude.{◌≡◌, ℕ, List, length, IsSome}
use Rattle.once_cell.specs.declared.race.note.Note.{Note}
use Rattle.zt_rows.specs.declared.calls.Answer.{Answer}
use Rattle.zt_rows.specs.declared.calls.Command.{Command}
use Rattle.zt_rows.specs.declared.saved.Saved.{Saved}
use Rattle.zt_book.specs.declared.log.Recorded.{Recorded}
use Rattle.zt_book.specs.Session.{Session}
use Rattle.zt_book.specs.Log.{Replays}
use Rattle.zt_shared.specs.Sharing.{told_to, begun}

-- how it is seen: the session at which the log begins, the session at which it ends, and the log
pub record Shown : Type 0 where
  pub base : Session
  pub session : Session
  pub log : List Recorded

-- the rows of the four clients' accounts
pub record Sides : Type 0 where
  pub first : List (Command × Answer)
  pub second : List (Command × Answer)
  pub third : List (Command × Answer)
  pub fourth : List (Command × Answer)

-- the rows of each account are the log's rows of its client
abbrev pub sides_of : List Recorded → Sides
sides_of log = record {
  first = told_to 1 log;
  second = told_to 2 log;
  third = told_to 3 log;
  fourth = told_to 4 log;
}

-- While the lock is free: the base cell, of this name, and the note of it are the ones that the naming type names; the
-- log replays from where the note says that it begins to the book's session, which has so many clients; and the rows of
-- each account are the log's rows of its client.
pub record IsLockedBook (base clients cell : ℕ) (told : Note Saved) (end : Session) (log : List Recorded) (sides : Sides) : Type 0 where
  pub named : cell ≡ base
  pub noted : told.cell ≡ base
  pub known : IsSome told.known
  pub replays : Replays (begun clients told.known) log end
  pub rows : sides ≡ sides_of log
  pub many : length end.clients ≡ clients
