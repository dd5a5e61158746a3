-- The clients of a saved tree: one at each cursor.
use Rattle.std.proofs.Common.{◌≡◌, ℕ, zero, suc, ◌+◌, ◌≤◌, ◌<◌, List, [], ◌∷◌, ◌++◌, length, map, take, get_or, refl, sym, ◌∙◌, ap, arith, length-append}
use Rattle.std.specs.Prelude.{All, replicate}
use Rattle.std.proofs.Math.Seq.{take-suc}
use Rattle.std.proofs.lemmas.List.{length-replicate, length-take-le, get_or-replicate}
use Rattle.std.proofs.lemmas.List.Elements.{All-take, All-append, All-map, All-replicate}
use Rattle.std.specs.Prelude.{Result, Ok, Err, IfOk}
use Rattle.std.proofs.lemmas.Bool.{le-ltb}
use Rattle.zt_rows.specs.declared.saved.Cursor.{Cursor as SavedCursor}
use Rattle.zt_rows.specs.declared.saved.SavedBranch.{SavedBranch}
use Rattle.zt_rows.specs.declared.saved.SavedCall.{SavedCall}
use Rattle.zt_history.specs.Tree.{Tree}
use Rattle.zt_history.specs.TreeInvariant.{IsTree}
use Rattle.zt_book.specs.declared.client.Client.{Client}
use Rattle.zt_book.specs.declared.client.Cursor.{Cursor}
use Rattle.zt_book.specs.Session.{Session, first_client}
use Rattle.zt_book.specs.SavedSessions.{◌>>=◌, client_at, clients_at, loaded_saved, loaded_tree, seated}
use Rattle.zt_book.specs.ProofsOnly.SessionState.{SessionStateView, IsClient, IsCursor}
use Rattle.zt_book.proofs.SessionStateLaws.{first-stands}

-- behind a list, as many of another as one likes
padded-at : {A : Type 0} (xs : List A) (n i : ℕ) (d : A) → i < n → get_or (xs ++ replicate n d) i d ≡ get_or xs i d
padded-at [] n i d h = get_or-replicate n i d d h
padded-at (x ∷ xs) n zero d h = refl
padded-at (x ∷ xs) n (suc i) d h = padded-at xs n i d (omega arith)

padded-length : {A : Type 0} (xs : List A) (n : ℕ) (d : A) → n ≤ length (xs ++ replicate n d)
padded-length xs n d = omega (arith, length-append xs (replicate n d), length-replicate n d)

padded-next : {A : Type 0} (xs : List A) (n i : ℕ) (d : A) → i < n → take i (xs ++ replicate n d) ++ get_or xs i d ∷ [] ≡ take (i + 1) (xs ++ replicate n d)
padded-next xs n i d h =
    let within : i < length (xs ++ replicate n d) = omega (arith, h, padded-length xs n d) in
    let one : suc i ≡ i + 1 = omega arith in
    ap (λ x. take i (xs ++ replicate n d) ++ x ∷ []) (sym (padded-at xs n i d h))
    ∙ sym (take-suc (xs ++ replicate n d) i d within)
    ∙ ap (λ k. take k (xs ++ replicate n d)) one

-- one client more, at the next cursor
pub client-next : (clients i : ℕ) (cursors : List Cursor) (standing : List Client) (cursor : Cursor) → i < clients → cursor ≡ get_or cursors i first_client.cursor
    → standing ≡ take i (map client_at cursors ++ replicate clients first_client)
    → standing ++ client_at cursor ∷ [] ≡ take (i + 1) (map client_at cursors ++ replicate clients first_client)
client-next clients i cursors standing cursor h is so_far =
    ap (λ l. l ++ client_at cursor ∷ []) so_far
    ∙ ap (λ k. take i (map client_at cursors ++ replicate clients first_client) ++ client_at k ∷ []) is
    ∙ ap (λ c. take i (map client_at cursors ++ replicate clients first_client) ++ c ∷ []) (mapped cursors i)
    ∙ padded-next (map client_at cursors) clients i first_client h
  where
    mapped : (cursors : List Cursor) (i : ℕ) → client_at (get_or cursors i first_client.cursor) ≡ get_or (map client_at cursors) i first_client
    mapped [] i = refl
    mapped (c ∷ cs) zero = refl
    mapped (c ∷ cs) (suc i) = mapped cs i

pub length-clients_at : (clients : ℕ) (cursors : List Cursor) → length (clients_at clients cursors) ≡ clients
length-clients_at clients cursors = length-take-le clients (map client_at cursors ++ replicate clients first_client) (padded-length (map client_at cursors) clients first_client)

pub clients-stand : (t : Tree) → IsTree t → (clients : ℕ) (cursors : List Cursor) → All (IsCursor t) cursors → All (IsClient t) (clients_at clients cursors)
clients-stand t is clients cursors all =
    All-take (IsClient t) clients (map client_at cursors ++ replicate clients first_client)
    (All-append (IsClient t) (map client_at cursors) (replicate clients first_client)
    (All-map (IsClient t) client_at cursors (λ k d lt. record { cursor = all k d lt; pinned = tt; rows = omega arith }))
    (All-replicate (IsClient t) clients first_client (first-stands t is)))

-- a session is loaded of its tree and its cursors
pub loaded_of_parts : (clients : ℕ) (moments : List SavedCall) (branches : List SavedBranch) (cursors : List SavedCursor) (t : Tree) (M : Session) → clients ≤ 4
    → loaded_tree (record { moments = moments; branches = branches; cursors = [] }) ≡ Ok t
    → seated clients (length moments + length branches) t cursors ≡ Ok M
    → loaded_saved clients (record { moments = moments; branches = branches; cursors = cursors }) ≡ Ok M
loaded_of_parts clients moments branches cursors t M few tree seats =
    rw (le-ltb 4 clients few)
    (ap (λ r. r >>= λ u. seated clients (length moments + length branches) u cursors) tree ∙ seats)

-- if a result is ok and seats at most 4 clients at the cursors of the loaded tree, it is the session loaded of what was saved
pub loaded_if_seated : {E : Type 0} (clients number : ℕ) (moments : List SavedCall) (branches : List SavedBranch) (cursors : List SavedCursor) (t : Tree) (r : Result SessionStateView E) → clients ≤ 4
    → number ≡ length moments + length branches
    → loaded_tree (record { moments = moments; branches = branches; cursors = [] }) ≡ Ok t
    → IfOk r (λ d. seated clients number t cursors ≡ Ok d.session)
    → IfOk r (λ d. loaded_saved clients (record { moments = moments; branches = branches; cursors = cursors }) ≡ Ok d.session)
loaded_if_seated clients number moments branches cursors t (Ok d) few is tree seats =
    loaded_of_parts clients moments branches cursors t d.session few tree (ap (λ n. seated clients n t cursors) (sym is) ∙ seats)
loaded_if_seated clients number moments branches cursors t (Err e) few is tree seats = tt
