-- The log of a session: what was asked and answered, in its order, so that the log can be replayed. This project's own.
use Rattle.std.specs.Prelude.{◌≡◌, ◌⊎◌, ℕ, suc, ◌≤◌, ◌==◌, nat_lt, Bool, true, false, List, [], ◌∷◌, length, filter, Option, None, Result, Ok, Err}
use Rattle.std.specs.List.{AllByRecursion}
use Rattle.zt_rows.specs.declared.calls.Answer.{Answer}
use Rattle.zt_rows.specs.declared.calls.Call.{Call}
use Rattle.zt_rows.specs.declared.refusals.Refusal.{Refusal}
use Rattle.zt_rows.specs.declared.refusals.Refusal.TheVariants as refusal
use Rattle.zt_rows.specs.declared.saved.Saved.{Saved}
use Rattle.zt_history.specs.HistoryRefusals.{call_on}
use Rattle.zt_history.specs.Tree.{Tree, opening_tree, state_at, calls_to}
use Rattle.zt_queries.specs.FrozenCopy.{Snapshot}
use Rattle.zt_book.specs.declared.log.Recorded.{Recorded}
use Rattle.zt_book.specs.Session.{Session, opening_session, session_over, client_of, most_clients, most_rows, serve}
use Rattle.zt_book.specs.SavedSessions.{loaded_saved}

-- ---- the log

-- serving the log's commands in turn from session M gives its answers and ends in N
abbrev pub Replays : Session → List Recorded → Session → Type 0
Replays M [] N = N ≡ M
Replays M (row ∷ rows) N =
    (between : Session) × (serve M row.client row.asked ≡ Ok (row.answered, between)) × Replays between rows N

-- the rows of one client
abbrev pub rows_of : ℕ → List Recorded → List Recorded
rows_of client log = filter (λ row. row.client == client) log

-- a row of one of so many clients
abbrev pub IsOf : ℕ → Recorded → Type 0
IsOf clients row = (1 ≤ row.client) × (row.client ≤ clients)

-- what was answered to a client is counted: so many rows of it are in the log, and not too many; there are no rows of
-- others
pub record IsCounted (M : Session) (log : List Recorded) : Type 0 where
  pub few : length M.clients ≤ most_clients
  pub each : (client : ℕ) → 1 ≤ client → client ≤ length M.clients → (client_of M client).rows ≡ length (rows_of client log)
  pub within : (client : ℕ) → 1 ≤ client → client ≤ length M.clients → (client_of M client).rows ≤ most_rows
  pub of_clients : AllByRecursion (IsOf (length M.clients)) log

-- ---- a book

-- a session with its log
pub record SessionLog : Type 0 where
  pub session : Session
  pub log : List Recorded

-- how a book is seen. `before` is there where the last command was answered, and nothing was changed since: what it
-- was before that command.
pub record BookView : Type 0 where
  pub session : Session
  pub log : List Recorded
  pub before : Option SessionLog

-- the session and the log, of a book
abbrev pub standing_of : BookView → SessionLog
standing_of b = record { session = b.session; log = b.log }

-- a book whose log begins in this session
abbrev pub book_at : Session → BookView
book_at M = record { session = M; log = []; before = None }

-- a book of so many clients at the opening
abbrev pub first_book : ℕ → BookView
first_book clients = book_at (opening_session clients)

-- a copy of the history at this moment of a tree
abbrev pub snapshot_at : Tree → ℕ → Snapshot
snapshot_at t m = record { moment = m; state = state_at t.made m; calls = calls_to t.made m }

-- ---- loading

-- what the rest of the calls gives, once call i was answered; or why call i was refused, with its number
abbrev pub loaded_behind : ℕ → Result (Answer × Tree) Refusal → (Tree → Result Tree (ℕ × Refusal)) → Result Tree (ℕ × Refusal)
loaded_behind i (Ok done) rest = rest done.1
loaded_behind i (Err reason) rest = Err (i, reason)

-- calls on `main` in turn, or the number of the first that is refused, from 0, with why
abbrev pub loaded_from : ℕ → Tree → List (ℕ × Call) → Result Tree (ℕ × Refusal)
loaded_from i t [] = Ok t
loaded_from i t ((process, call) ∷ calls) = loaded_behind i (call_on t 0 process call) (λ u. loaded_from (suc i) u calls)

-- the tree of these calls
abbrev pub loaded : List (ℕ × Call) → Result Tree (ℕ × Refusal)
loaded calls = loaded_from 0 opening_tree calls

-- a book of so many clients over a loaded tree: its log begins there
abbrev pub book_over : Tree → ℕ → BookView
book_over t clients = book_at (session_over t clients)

-- what is told where a book is not loaded: that there are too many clients; or the first call, moment, branch or cursor
-- that is refused; or that memory was refused
abbrev pub IsUnloadedBy : {Whole : Type 0} → Bool → Result Whole (ℕ × Refusal) → ℕ × Refusal → Type 0
IsUnloadedBy true whole fault = fault ≡ (0, refusal.TooManyClients)
IsUnloadedBy false (Err first) fault = (fault ≡ first) ⊎ (fault ≡ (0, refusal.OutOfMemory))
IsUnloadedBy false (Ok t) fault = fault ≡ (0, refusal.OutOfMemory)

abbrev pub IsUnloaded : {Whole : Type 0} → ℕ → Result Whole (ℕ × Refusal) → ℕ × Refusal → Type 0
IsUnloaded clients whole fault = IsUnloadedBy (nat_lt 4 clients) whole fault

-- ---- the log of a book

-- loading a saved tree gives this session
pub record IsBegun (M : Session) : Type 0 where
  pub saved : Saved
  pub gives : loaded_saved (length M.clients) saved ≡ Ok M

-- the log has all that was answered to the clients of M: it replays from a session that loading a saved tree gives, and
-- ends in M
pub record IsWholeLog (M : Session) (log : List Recorded) : Type 0 where
  pub base : Session
  pub begun : IsBegun base
  pub replays : Replays base log M
