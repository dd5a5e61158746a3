-- A session: the tree of moments, and where each client stands in it; and what a client's command is answered, memory
-- aside. The order of the checks is the order in which refusals are told. This project's own.
use Rattle.std.specs.Prelude.{◌≡◌, ◌⊎◌, ℕ, ◌-◌, ◌+◌, ◌==◌, nat_lt, nat_le, Bool, false, ◌&&◌, ◌||◌, List, [], ◌∷◌, length, replicate, slice_index_or, slice_set, Option, None, Some, Result, Ok, Err}
use Rattle.std.specs.List.{list_all}
use Rattle.std.specs.Option.{option_map}
use Rattle.zt_rows.specs.declared.calls.Answer.{Answer}
use Rattle.zt_rows.specs.declared.calls.Answer.TheVariants as answer
use Rattle.zt_rows.specs.declared.calls.Call.{Call}
use Rattle.zt_rows.specs.declared.calls.Command.{Command}
use Rattle.zt_rows.specs.declared.calls.Command.TheVariants as command
use Rattle.zt_rows.specs.declared.calls.Event.{Event}
use Rattle.zt_rows.specs.declared.calls.Happening.{Happening}
use Rattle.zt_rows.specs.declared.refusals.Refusal.{Refusal}
use Rattle.zt_rows.specs.declared.refusals.Refusal.TheVariants as refusal
use Rattle.zt_rows.specs.State.{State}
use Rattle.zt_history.specs.HistoryRefusals.{check, ◌>>=◌, call_on, branch_on, moment_on}
use Rattle.zt_history.specs.Tree.{Made, Tree, opening_tree, made_at, path, state_at, head_at, branch_named}
use Rattle.zt_queries.specs.FrozenCopy.{holders_on}
use Rattle.zt_queries.specs.Leaks.{leaks}
use Rattle.zt_queries.specs.HappeningTimes.{when_on}
use Rattle.zt_book.specs.declared.client.Client.{Client}
use Rattle.zt_book.specs.declared.client.Cursor.{Cursor}
use Rattle.zt_book.specs.declared.client.Cursor.TheVariants.{Follows, At}

pub record Session : Type 0 where
  pub tree : Tree
  pub clients : List Client

-- ---- the beginning

-- a client follows the first branch, `main`, has pinned nothing, and was answered nothing
abbrev pub first_client : Client
first_client = record { cursor = Follows 0; pinned = None; rows = 0 }

-- a session of so many clients over this tree, each of them as `first_client`
abbrev pub session_over : Tree → ℕ → Session
session_over t clients = record { tree = t; clients = replicate clients first_client }

abbrev pub opening_session : ℕ → Session
opening_session clients = session_over opening_tree clients

-- ---- where a client stands

-- the client of this number, from 1
abbrev pub client_of : Session → ℕ → Client
client_of M client = slice_index_or M.clients (client - 1) first_client

abbrev pub moment_of : Tree → Cursor → ℕ
moment_of t (Follows branch) = head_at t.branches branch
moment_of t (At moment) = moment

-- the moment at which a client stands: the head of the branch that it follows, or its own
abbrev pub position_of : Session → ℕ → ℕ
position_of M client = moment_of M.tree (client_of M client).cursor

-- the state at which a client stands
abbrev pub state_of : Session → ℕ → State
state_of M client = state_at M.tree.made (position_of M client)

-- ---- a client that is changed

abbrev pub with_client : Session → ℕ → Client → Session
with_client M client to = record M { clients = slice_set M.clients (client - 1) to }

-- the client stands elsewhere
abbrev pub standing : Session → ℕ → Cursor → Session
standing M client cursor = with_client M client (record (client_of M client) { cursor = cursor })

-- one answered command more of the client
abbrev pub counted : Session → ℕ → Session
counted M client = with_client M client (record (client_of M client) { rows = (client_of M client).rows + 1 })

-- the most clients of a book
abbrev pub most_clients : ℕ
most_clients = 4

-- the most answered commands of a client
abbrev pub most_rows : ℕ
most_rows = 4096

-- ---- names of branches

abbrev pub is_letter : ℕ → Bool
is_letter byte = nat_le 97 byte && nat_le byte 122

-- a small letter, a digit, `_` or `-`
abbrev pub is_name_byte : ℕ → Bool
is_name_byte byte = is_letter byte || (nat_le 48 byte && nat_le byte 57) || (byte == 95) || (byte == 45)

-- 1 to 32 of them, of which the first is a letter
abbrev pub is_name : List ℕ → Bool
is_name [] = false
is_name (first ∷ others) = is_letter first && list_all is_name_byte others && nat_le (length others) 31

-- ---- one command each: what it is answered, and the session after it; or the first reason why it is refused

-- the branch that a client follows
abbrev pub followed : Cursor → Result ℕ Refusal
followed (Follows branch) = Ok branch
followed (At moment) = Err refusal.Detached

-- a call at the head of the branch that the client follows
unfoldable pub call_by : Session → ℕ → ℕ → Call → Result (Answer × Session) Refusal
call_by M client process call = do
  branch ← followed (client_of M client).cursor
  done ← call_on M.tree branch process call
  Ok (done.0, record M { tree = done.1 })

unfoldable pub goto_by : Session → ℕ → ℕ → Result (Answer × Session) Refusal
goto_by M client moment = do
  there ← moment_on M.tree moment
  Ok (answer.At there, standing M client (At there))

-- the moment so many above the last of a path: the path begins behind the opening
abbrev pub ancestor : List ℕ → ℕ → ℕ
ancestor way count = slice_index_or (0 ∷ way) (length way - count) 0

unfoldable pub back_by : Session → ℕ → ℕ → Result (Answer × Session) Refusal
back_by M client count = do
  _ ← check (nat_le count (length (path M.tree.made (position_of M client)))) refusal.AtStart
  Ok (
    answer.At (ancestor (path M.tree.made (position_of M client)) count),
    standing M client (At (ancestor (path M.tree.made (position_of M client)) count)),
  )

-- a branch at the position of the client, which follows it from then on
unfoldable pub branch_by : Session → ℕ → List ℕ → Result (Answer × Session) Refusal
branch_by M client name = do
  _ ← check (is_name name) refusal.BadName
  added ← branch_on M.tree name (position_of M client)
  Ok (answer.Branched name (position_of M client), standing (record M { tree = added.1 }) client (Follows added.0))

abbrev pub branch_found : Option ℕ → Result ℕ Refusal
branch_found (Some branch) = Ok branch
branch_found None = Err refusal.NoBranch

unfoldable pub follow_by : Session → ℕ → List ℕ → Result (Answer × Session) Refusal
follow_by M client name = do
  branch ← branch_found (branch_named M.tree.branches name)
  Ok (answer.Followed name (head_at M.tree.branches branch), standing M client (Follows branch))

-- the rows at the position, in the order of their keys
unfoldable pub show_to : Session → ℕ → Result (Answer × Session) Refusal
show_to M client = Ok (answer.Rows (position_of M client) (state_of M client).rows, M)

unfoldable pub holders_to : Session → ℕ → ℕ → Result (Answer × Session) Refusal
holders_to M client object = do
  held ← holders_on (state_of M client) object
  Ok (answer.Holders object held, M)

unfoldable pub leaks_to : Session → ℕ → Result (Answer × Session) Refusal
leaks_to M client = Ok (answer.Leaks (position_of M client) (leaks (state_of M client)), M)

-- a moment with the call that made it
abbrev pub event_of : ℕ → Made → Event
event_of m e = record { moment = m; process = e.process; call = e.call }

abbrev pub event_at : List Made → Option ℕ → Option Event
event_at made (Some m) = option_map (event_of m) (made_at made m)
event_at made None = None

unfoldable pub when_to : Session → ℕ → Happening → ℕ → Result (Answer × Session) Refusal
when_to M client what object = do
  found ← when_on what M.tree.made (position_of M client) object
  Ok (answer.When (event_at M.tree.made found), M)

unfoldable pub pin_to : Session → ℕ → Result (Answer × Session) Refusal
pin_to M client = Ok (answer.Pinned (position_of M client), with_client M client (record (client_of M client) { pinned = Some (position_of M client) }))

-- ---- any command

abbrev pub asked : Session → ℕ → Command → Result (Answer × Session) Refusal
asked M client (command.Call process call) = call_by M client process call
asked M client (command.Goto moment) = goto_by M client moment
asked M client (command.Back count) = back_by M client count
asked M client (command.Branch name) = branch_by M client name
asked M client (command.Follow name) = follow_by M client name
asked M client command.Show = show_to M client
asked M client (command.Holders object) = holders_to M client object
asked M client command.Leaks = leaks_to M client
asked M client (command.When what object) = when_to M client what object
asked M client command.Pin = pin_to M client

-- what a client's command is answered, and the session after it, where the client has one answer more; or the first
-- reason why it is refused
unfoldable pub serve : Session → ℕ → Command → Result (Answer × Session) Refusal
serve M client request = do
  _ ← check (nat_lt (client_of M client).rows most_rows) refusal.ClientFull
  said ← asked M client request
  Ok (said.0, counted said.1 client)

-- The refusal that a command may get, by the result of its checks: want of memory if all pass, else the first that fails. The
-- check for the caller and that for an object go to another moment, which takes memory: these two may be told as want of it.
abbrev pub IsCommandRefusal : {A : Type 0} → Result A Refusal → Refusal → Type 0
IsCommandRefusal (Ok _) given = given ≡ refusal.OutOfMemory
IsCommandRefusal (Err refusal.NoProcess) given = (given ≡ refusal.NoProcess) ⊎ (given ≡ refusal.OutOfMemory)
IsCommandRefusal (Err refusal.NoObject) given = (given ≡ refusal.NoObject) ⊎ (given ≡ refusal.OutOfMemory)
IsCommandRefusal (Err reason) given = given ≡ reason
