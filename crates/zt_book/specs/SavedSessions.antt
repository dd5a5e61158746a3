-- A session as it is written down, and what is loaded of it again: the moments in their order, then the branches, of which
-- the first is `main`, and then where each client stands. This project's own.
use Rattle.std.specs.Prelude.{ℕ, suc, ◌+◌, nat_lt, not, ⊤, List, [], ◌∷◌, ◌++◌, length, map, take, replicate, is_some, Result, Ok, Err, if◌then◌else◌}
use Rattle.std.specs.Str.{bytes_eq}
use Rattle.zt_rows.specs.declared.refusals.Refusal.{Refusal}
use Rattle.zt_rows.specs.declared.refusals.Refusal.TheVariants as refusal
use Rattle.zt_rows.specs.declared.saved.Saved.{Saved}
use Rattle.zt_rows.specs.declared.saved.SavedCall.{SavedCall}
use Rattle.zt_rows.specs.declared.saved.SavedBranch.{SavedBranch}
use Rattle.zt_rows.specs.declared.saved.Cursor.{Cursor as SavedCursor}
use Rattle.zt_rows.specs.declared.saved.Cursor.TheVariants as saved_cursor
use Rattle.zt_history.specs.HistoryRefusals.{check, call_under, moment_on}
use Rattle.zt_history.specs.Tree.{Made, Branch, Tree, main_name, opening_tree, name_at, branch_named, head_moved, branched}
use Rattle.zt_book.specs.declared.client.Client.{Client}
use Rattle.zt_book.specs.declared.client.Cursor.{Cursor}
use Rattle.zt_book.specs.declared.client.Cursor.TheVariants.{Follows, At}
use Rattle.zt_book.specs.Session.{Session, first_client, session_over, is_name, branch_found}

-- ---- how a session is written down

-- what a moment's call answered is left out, since the call answers it again
abbrev pub saved_call : Made → SavedCall
saved_call e = record { parent = e.parent; process = e.process; call = e.call }

abbrev pub saved_branch : Branch → SavedBranch
saved_branch b = record { name = b.name; head = b.head }

-- a branch is written down by its name
abbrev pub saved_place : List Branch → Cursor → SavedCursor
saved_place branches (Follows branch) = saved_cursor.Follows (name_at branches branch)
saved_place branches (At moment) = saved_cursor.At moment

-- what a client pinned is left out, and how many answers it got
abbrev pub saved_of_session : Session → Saved
saved_of_session M = record {
  moments = map saved_call M.tree.made;
  branches = map saved_branch M.tree.branches;
  cursors = map (λ client. saved_place M.tree.branches client.cursor) M.clients;
}

-- the branches and the cursors alone
abbrev pub without_moments : Saved → Saved
without_moments saved = record saved { moments = [] }

-- ---- items in turn

-- the first fault ends it
infixl 10 ◌>>=◌
abbrev pub ◌>>=◌ : {A B E : Type 0} → Result A E → (A → Result B E) → Result B E
(Ok x) >>= f = f x
(Err fault) >>= f = Err fault

-- a refusal is told with the number of its item
abbrev pub at_item : {A : Type 0} → ℕ → Result A Refusal → Result A (ℕ × Refusal)
at_item number (Ok x) = Ok x
at_item number (Err reason) = Err (number, reason)

-- each item adds to what those before it made; the first of them has this number
abbrev pub in_turn : {Whole Item : Type 0} → (Whole → Item → Result Whole Refusal) → ℕ → Whole → List Item → Result Whole (ℕ × Refusal)
in_turn add number whole [] = Ok whole
in_turn add number whole (item ∷ items) = do
  more ← at_item number (add whole item)
  in_turn add (suc number) more items

-- ---- one item each: what it adds, or the first reason why it is refused

-- one moment more
abbrev pub with_moment : Tree → SavedCall → Result Tree Refusal
with_moment t saved = do
  done ← call_under t saved.parent saved.process saved.call
  Ok done.1

-- the first branch is `main`, which is there: its head moves
abbrev pub with_main : Tree → SavedBranch → Result Tree Refusal
with_main t saved = do
  _ ← check (bytes_eq saved.name main_name) refusal.NoBranch
  head ← moment_on t saved.head
  Ok (head_moved t 0 head)

-- one branch more
abbrev pub with_branch : Tree → SavedBranch → Result Tree Refusal
with_branch t saved = do
  _ ← check (is_name saved.name) refusal.BadName
  _ ← check (not (is_some (branch_named t.branches saved.name))) refusal.NameTaken
  head ← moment_on t saved.head
  Ok (branched t saved.name head)

-- where a client stands in this tree
abbrev pub place_on : Tree → SavedCursor → Result Cursor Refusal
place_on t (saved_cursor.Follows name) = do
  branch ← branch_found (branch_named t.branches name)
  Ok (Follows branch)
place_on t (saved_cursor.At moment) = do
  there ← moment_on t moment
  Ok (At there)

-- one cursor more
abbrev pub with_cursor : Tree → List Cursor → SavedCursor → Result (List Cursor) Refusal
with_cursor t cursors saved = do
  cursor ← place_on t saved
  Ok (cursors ++ cursor ∷ [])

-- ---- loading

-- the tree with these branches, of which the first has this number
abbrev pub with_branches : ℕ → Tree → List SavedBranch → Result Tree (ℕ × Refusal)
with_branches number t [] = Err (number, refusal.NoBranch)
with_branches number t (first ∷ others) = do
  u ← at_item number (with_main t first)
  in_turn with_branch (suc number) u others

-- the tree of these moments and branches
abbrev pub loaded_tree : Saved → Result Tree (ℕ × Refusal)
loaded_tree saved = do
  t ← in_turn with_moment 0 opening_tree saved.moments
  with_branches (length saved.moments) t saved.branches

-- a client at this cursor who has pinned nothing and was answered nothing
abbrev pub client_at : Cursor → Client
client_at cursor = record first_client { cursor = cursor }

-- a list of so many clients: one at each of the first cursors, and once these are used up, clients that follow `main`
abbrev pub clients_at : ℕ → List Cursor → List Client
clients_at clients cursors = take clients (map client_at cursors ++ replicate clients first_client)

-- a session of so many clients over this tree, at these cursors; a refused cursor is told by its number, from `number` on
abbrev pub seated : ℕ → ℕ → Tree → List SavedCursor → Result Session (ℕ × Refusal)
seated clients number t saved = do
  cursors ← in_turn (with_cursor t) number [] saved
  Ok (record { tree = t; clients = clients_at clients cursors })

-- four clients at most
abbrev pub few : ℕ → Result ⊤ (ℕ × Refusal)
few clients = if nat_lt 4 clients then Err (0, refusal.TooManyClients) else Ok tt

-- the session of so many clients that is written down so; or the first fault, with the number of its item, which counts
-- moments, branches and cursors in one row, from 0
abbrev pub loaded_saved : ℕ → Saved → Result Session (ℕ × Refusal)
loaded_saved clients saved = do
  _ ← few clients
  t ← loaded_tree saved
  seated clients (length saved.moments + length saved.branches) t saved.cursors

-- ---- calls alone

-- a session of so many clients over a loaded tree, or why the tree was not loaded
abbrev pub over_loaded : ℕ → Result Tree (ℕ × Refusal) → Result Session (ℕ × Refusal)
over_loaded clients loading = do
  t ← loading
  Ok (session_over t clients)

-- ---- what is loaded of a session that is written down

-- the clients stand where they stood, but have pinned nothing, and were answered nothing
abbrev pub unanswered : Session → Session
unanswered M = record M { clients = map (λ client. client_at client.cursor) M.clients }
