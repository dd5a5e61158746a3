-- Who explores a book always has room.
use Rattle.std.proofs.Common.{◌≡◌, ◌≢◌, ℕ, ◌<◌, Bool, true, false, not, List, [], ◌∷◌, length, map, get_or, Option, Some, None, Result, Ok, Err, refl, sym, ◌∙◌, ap, inl, inr}
use Rattle.std.specs.Prelude.{⊤, nat_lt, nat_le, is_some, if◌then◌else◌}
use Rattle.std.proofs.lemmas.Bool.{lt-ltb}
use Rattle.std.proofs.lemmas.List.{length-map}
use Rattle.zt_rows.specs.declared.calls.Call.{Call}
use Rattle.zt_rows.specs.declared.calls.Command.{Command}
use Rattle.zt_rows.specs.declared.calls.Command.TheVariants as command
use Rattle.zt_rows.specs.declared.refusals.Refusal.{Refusal}
use Rattle.zt_rows.specs.declared.refusals.Refusal.TheVariants as refusal
use Rattle.zt_rows.specs.Reads.{has_live_process}
use Rattle.zt_rows.specs.Tests.{exists}
use Rattle.zt_history.specs.HistoryRefusals.{◌>>=◌, check, call_on, branch_on, moment_on, most_moments}
use Rattle.zt_history.specs.Tree.{Tree, last_moment, path, state_at, head_at, branch_named}
use Rattle.zt_queries.specs.FrozenCopy.{holders_on}
use Rattle.zt_queries.specs.HappeningTimes.{is_known, when_on}
use Rattle.zt_book.specs.declared.client.Client.{Client}
use Rattle.zt_book.specs.declared.client.Cursor.{Cursor}
use Rattle.zt_book.specs.declared.client.Cursor.TheVariants.{Follows, At}
use Rattle.zt_book.specs.Log.{BookView, book_at}
use Rattle.zt_book.specs.SavedSessions.{client_at, unanswered}
use Rattle.zt_book.specs.Session.{Session, first_client, client_of, position_of, state_of, most_rows, is_name, followed, branch_found, asked, serve, call_by, goto_by, back_by, branch_by, follow_by, show_to, holders_to, leaks_to, when_to, pin_to, IsCommandRefusal}
use Rattle.zt_console.specs.Explored.{explored, AsksExplored}

-- ---- room

renewed-rows : (clients : List Client) → (get_or (map (λ (client : Client). client_at client.cursor) clients) 0 first_client).rows ≡ 0
renewed-rows [] = refl
renewed-rows (c ∷ cs) = refl

room-by : (M : BookView) (b : Bool) → nat_lt (client_of M.session 1).rows most_rows ≡ b
    → (let N : BookView = if b then M else book_at (unanswered M.session) in nat_lt (client_of N.session 1).rows most_rows ≡ true)
room-by M true is = is
room-by M false is = ap (λ n. nat_lt n most_rows) (renewed-rows M.session.clients)

explored-room : (M : BookView) → nat_lt (client_of (explored M).session 1).rows most_rows ≡ true
explored-room M = room-by M _ refl

-- with room, the book is asked as it is
pub explored-same : (M : BookView) → (client_of M.session 1).rows < most_rows → explored M ≡ M
explored-same M h = ap (λ b. if b then M else book_at (unanswered M.session)) (lt-ltb (client_of M.session 1).rows most_rows h)

many-by : (M : BookView) (b : Bool) → (let N : BookView = if b then M else book_at (unanswered M.session) in length N.session.clients ≡ length M.session.clients)
many-by M true = refl
many-by M false = length-map M.session.clients (λ (client : Client). client_at client.cursor)

-- the clients are as many
pub explored-many : (M : BookView) → length (explored M).session.clients ≡ length M.session.clients
explored-many M = many-by M _

-- ---- what a command is refused

-- not for want of room
abbrev IsOther : {A : Type 0} → Result A Refusal → Type 0
IsOther (Ok x) = ⊤
IsOther (Err reason) = reason ≢ refusal.ClientFull

other-then : {A B : Type 0} (r : Result A Refusal) (f : A → Result B Refusal) → IsOther r → ((x : A) → IsOther (f x)) → IsOther (r >>= f)
other-then (Ok x) f first rest = rest x
other-then (Err reason) f first rest = first

other-check : (b : Bool) (reason : Refusal) → reason ≢ refusal.ClientFull → IsOther (check b reason)
other-check true reason h = tt
other-check false reason h = h

other-followed : (cursor : Cursor) → IsOther (followed cursor)
other-followed (Follows branch) = tt
other-followed (At moment) = λ e. cc e

other-found : (found : Option ℕ) → IsOther (branch_found found)
other-found (Some branch) = tt
other-found None = λ e. cc e

other-moment : (t : Tree) (m : ℕ) → IsOther (moment_on t m)
other-moment t m = other-then (check (nat_le m (last_moment t)) refusal.NoMoment) _ (other-check _ _ (λ e. cc e)) (λ _. tt)

other-call : (t : Tree) (b process : ℕ) (call : Call) → IsOther (call_on t b process call)
other-call t b process call =
    other-then (check (nat_lt (last_moment t) most_moments) refusal.Full) _ (other-check _ _ (λ e. cc e))
    (λ _. other-then (check (has_live_process (state_at t.made (head_at t.branches b)) process) refusal.NoProcess) _ (other-check _ _ (λ e. cc e)) (λ _. tt))

other-branch : (t : Tree) (name : List ℕ) (m : ℕ) → IsOther (branch_on t name m)
other-branch t name m =
    other-then (check (nat_le m (last_moment t)) refusal.NoMoment) _ (other-check _ _ (λ e. cc e))
    (λ _. other-then (check (not (is_some (branch_named t.branches name))) refusal.NameTaken) _ (other-check _ _ (λ e. cc e)) (λ _. tt))

other-asked : (M : Session) (client : ℕ) (request : Command) → IsOther (asked M client request)
unfolding call_by goto_by back_by branch_by follow_by show_to holders_to leaks_to when_to pin_to
other-asked M client (command.Call process call) =
    other-then (followed (client_of M client).cursor) _ (other-followed (client_of M client).cursor)
    (λ branch. other-then (call_on M.tree branch process call) _ (other-call M.tree branch process call) (λ _. tt))
other-asked M client (command.Goto moment) = other-then (moment_on M.tree moment) _ (other-moment M.tree moment) (λ _. tt)
other-asked M client (command.Back count) =
    other-then (check (nat_le count (length (path M.tree.made (position_of M client)))) refusal.AtStart) _ (other-check _ _ (λ e. cc e)) (λ _. tt)
other-asked M client (command.Branch name) =
    other-then (check (is_name name) refusal.BadName) _ (other-check _ _ (λ e. cc e))
    (λ _. other-then (branch_on M.tree name (position_of M client)) _ (other-branch M.tree name (position_of M client)) (λ _. tt))
other-asked M client (command.Follow name) =
    other-then (branch_found (branch_named M.tree.branches name)) _ (other-found (branch_named M.tree.branches name)) (λ _. tt)
other-asked M client command.Show = tt
other-asked M client (command.Holders object) =
    other-then (holders_on (state_of M client) object) _
    (other-then (check (exists (state_of M client) object) refusal.NoObject) _ (other-check _ _ (λ e. cc e)) (λ _. tt)) (λ _. tt)
other-asked M client command.Leaks = tt
other-asked M client (command.When what object) =
    other-then (when_on what M.tree.made (position_of M client) object) _
    (other-then (check (is_known (state_at M.tree.made (position_of M client)) object) refusal.NoObject) _ (other-check _ _ (λ e. cc e)) (λ _. tt)) (λ _. tt)
other-asked M client command.Pin = tt

other-served : (M : Session) (client : ℕ) (request : Command) → nat_lt (client_of M client).rows most_rows ≡ true → IsOther (serve M client request)
unfolding serve
other-served M client request room = rw room (other-then (asked M client request) _ (other-asked M client request) (λ _. tt))

other-given : {A : Type 0} (r : Result A Refusal) (given : Refusal) → IsOther r → IsCommandRefusal r given → given ≢ refusal.ClientFull
other-given (Ok x) given other h = λ e. cc (h, e)
other-given (Err refusal.NoProcess) given other h = elim h [ inl one ↦ λ e. cc (one, e) | inr memory ↦ λ e. cc (memory, e) ]
other-given (Err refusal.NoObject) given other h = elim h [ inl one ↦ λ e. cc (one, e) | inr memory ↦ λ e. cc (memory, e) ]
other-given (Err _) given other h = λ e. other (sym h ∙ e)

pub never-full : (M : BookView) (request : Command) (reason : Refusal) (N : BookView) → AsksExplored M request (Err reason) N → reason ≢ refusal.ClientFull
never-full M request reason N h =
    other-given (serve (explored M).session 1 request) reason (other-served (explored M).session 1 request (explored-room M)) h.0
