-- Several clients with one book: what each of them was told is its part of one log, which replays. This project's own.
use Rattle.std.specs.Prelude.{◌≡◌, ◌≢◌, ℕ, zero, suc, List, [], ◌∷◌, ◌++◌, length, map, take, slice_get, Option, None, Some, Result, Ok, Err, All}
use Rattle.std.specs.List.{AllByRecursion}
use Rattle.zt_rows.specs.declared.calls.Answer.{Answer}
use Rattle.zt_rows.specs.declared.calls.Answer.TheVariants as answer
use Rattle.zt_rows.specs.declared.calls.Command.{Command}
use Rattle.zt_rows.specs.declared.calls.Command.TheVariants as command
use Rattle.zt_rows.specs.declared.refusals.Refusal.{Refusal}
use Rattle.zt_rows.specs.declared.refusals.Refusal.TheVariants as refusal
use Rattle.zt_rows.specs.declared.saved.Saved.{Saved}
use Rattle.zt_rows.specs.Opening.{opening}
use Rattle.zt_rows.specs.Step.{run}
use Rattle.zt_history.specs.Tree.{Tree, calls_to}
use Rattle.zt_queries.specs.FrozenCopy.{Snapshot}
use Rattle.zt_book.specs.declared.log.Recorded.{Recorded}
use Rattle.zt_book.specs.Session.{Session, opening_session, serve}
use Rattle.zt_book.specs.SavedSessions.{loaded_saved}
use Rattle.zt_book.specs.Log.{BookView, Replays, IsOf, rows_of}

-- ---- the rows of one client

-- what a client was asked and told, without its number
abbrev pub said_in : Recorded → Command × Answer
said_in row = (row.asked, row.answered)

-- what the log says that a client was told, in its order
abbrev pub told_to : ℕ → List Recorded → List (Command × Answer)
told_to client log = map said_in (rows_of client log)

-- the log with one row more
abbrev pub logged : List Recorded → ℕ → Command → Answer → List Recorded
logged log client asked answered = log ++ record { client = client; asked = asked; answered = answered } ∷ []

-- ---- where a log begins

-- a book of so many clients, to whom nothing was answered yet
pub record IsFresh (clients : ℕ) (book : BookView) : Type 0 where
  pub many : length book.session.clients ≡ clients
  pub empty : book.log ≡ []

-- the session of so many clients that loading gives
abbrev pub begun_by : ℕ → Result Session (ℕ × Refusal) → Session
begun_by clients (Ok M) = M
begun_by clients (Err fault) = opening_session clients

-- the session of so many clients at which a log begins, as the base cell tells it: the one that is written down there
abbrev pub begun : ℕ → Option Saved → Session
begun clients None = opening_session clients
begun clients (Some saved) = begun_by clients (loaded_saved clients saved)

-- ---- passes

-- how a client's pass is seen: the client's number, the session at which the log begins, and what the client was told
pub record PassView : Type 0 where
  pub client : ℕ
  pub base : Session
  pub rows : List (Command × Answer)

-- the pass of a client who was told nothing yet
abbrev pub first_part : Session → ℕ → PassView
first_part base client = record { client = client; base = base; rows = [] }

-- the numbers of so many clients, which are four at most
abbrev pub numbers : ℕ → List ℕ
numbers clients = take clients (1 ∷ 2 ∷ 3 ∷ 4 ∷ [])

-- one pass for each client, in order, without rows
abbrev pub first_parts : ℕ → Session → List PassView
first_parts clients base = map (first_part base) (numbers clients)

-- the n-th of some rows, from 1; nothing at 0, nor beyond the last
abbrev pub row_at : List (Command × Answer) → ℕ → Option (Command × Answer)
row_at rows zero = None
row_at rows (suc n) = slice_get rows n

-- ---- what a pass knows of the one log

-- the log replays from the pass's base and ends in this session, and its rows of the pass's client are the pass's rows
pub record IsPartOf (pass : PassView) (log : List Recorded) (end : Session) : Type 0 where
  pub replays : Replays pass.base log end
  pub rows : told_to pass.client log ≡ pass.rows

-- one event of the history: some log of which the pass is a part ends with this answer to this command
abbrev pub IsAnsweredOnPass : PassView → Command → Answer → Type 0
IsAnsweredOnPass pass asked answered =
    (log : List Recorded) × (end : Session) × IsPartOf pass (logged log pass.client asked answered) end

-- Unless memory was refused, some log of which the pass is a part ends in a session in which the command is refused so.
abbrev pub IsRefusedTo : PassView → Command → Refusal → Type 0
IsRefusedTo pass asked reason =
    reason ≢ refusal.OutOfMemory
    → (log : List Recorded) × (end : Session) × IsPartOf pass log end × (serve end pass.client asked ≡ Err reason)

-- A copy is of a moment of a tree: the answer names the moment, the copy has the calls on the path to it, and its state
-- is what running them gives.
pub record IsCopyOf (tree : Tree) (answered : Answer) (copy : Snapshot) : Type 0 where
  pub moment : answered ≡ answer.Pinned copy.moment
  pub path : copy.calls ≡ calls_to tree.made copy.moment
  pub state : copy.state ≡ (run opening copy.calls).0

-- a pin is one event of the history, and its copy is of a moment of the tree in which the log ends
abbrev pub IsPinnedOnPass : PassView → Answer → Snapshot → Type 0
IsPinnedOnPass pass answered copy =
    (log : List Recorded) × (end : Session) × IsPartOf pass (logged log pass.client command.Pin answered) end × IsCopyOf end.tree answered copy

-- the one log: it replays, its rows of each client are those of its pass, and there are no others
pub record IsOneLog (clients : ℕ) (passes : List PassView) (log : List Recorded) : Type 0 where
  pub parts : All (λ pass. (end : Session) × IsPartOf pass log end) passes
  pub others : AllByRecursion (IsOf clients) log
