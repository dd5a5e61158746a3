-- How a book answers its first client. This project's own.
use Rattle.std.specs.Prelude.{◌≡◌, Bool, true, false, if◌then◌else◌, [], ◌∷◌, ◌++◌, length, Option, None, Some, Ok, Err}
use Rattle.zt_rows.specs.declared.calls.Command.{Command}
use Rattle.zt_rows.specs.declared.calls.Command.TheVariants as command
use Rattle.zt_queries.specs.FrozenCopy.{Snapshot}
use Rattle.zt_book.specs.Log.{BookView, standing_of, snapshot_at}
use Rattle.zt_book.specs.Session.{Session, position_of, serve, IsCommandRefusal}
use Rattle.zt_console.specs.Conversations.{Manner}

abbrev pub is_pin : Command → Bool
is_pin command.Pin = true
is_pin _ = false

-- the copy that is made with the answer: of the history at the client's position, where the command is a pin
abbrev pub copy_of : Session → Command → Option Snapshot
copy_of M asked = if is_pin asked then Some (snapshot_at M.tree (position_of M 1)) else None

-- the clients are as many
abbrev pub SameClients : BookView → BookView → Type 0
SameClients M N = length N.session.clients ≡ length M.session.clients

-- An answer is the session's, and it is logged. A refusal is the session's first, or that memory was refused where that
-- may be told, and it changes neither session nor log.
abbrev pub AsksBook : Manner BookView
AsksBook M asked (Ok given) N =
    SameClients M N ×
    (serve M.session 1 asked ≡ Ok (given.0, N.session)) × (N.log ≡ M.log ++ record { client = 1; asked = asked; answered = given.0 } ∷ []) × (given.1 ≡ copy_of M.session asked)
AsksBook M asked (Err reason) N = IsCommandRefusal (serve M.session 1 asked) reason × (standing_of N ≡ standing_of M)
