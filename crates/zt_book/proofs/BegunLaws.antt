-- What a session that loading gives is made of: few clients, to whom nothing was answered. The sessions in which books begin.
use Rattle.std.proofs.Common.{◌≡◌, ℕ, ◌+◌, ◌≤◌, Bool, true, false, List, [], ◌++◌, length, map, Result, Ok, Err, refl, sym, ◌∙◌, ap, subst}
use Rattle.std.specs.Prelude.{⊤, All, nat_lt, replicate, if◌then◌else◌}
use Rattle.std.proofs.lemmas.Bool.{ltb-false}
use Rattle.std.proofs.lemmas.List.{length-replicate}
use Rattle.std.proofs.lemmas.List.Elements.{All-take, All-append, All-map, All-replicate}
use Rattle.zt_rows.specs.declared.calls.Call.{Call}
use Rattle.zt_rows.specs.declared.refusals.Refusal.{Refusal}
use Rattle.zt_rows.specs.declared.refusals.Refusal.TheVariants as refusal
use Rattle.zt_rows.specs.declared.saved.Saved.{Saved}
use Rattle.zt_rows.specs.CallsInARow.{in_a_row}
use Rattle.zt_history.specs.Tree.{Tree}
use Rattle.zt_book.specs.declared.client.Client.{Client}
use Rattle.zt_book.specs.declared.client.Cursor.{Cursor}
use Rattle.zt_book.specs.Session.{Session, first_client, session_over, opening_session}
use Rattle.zt_book.specs.SavedSessions.{◌>>=◌, in_turn, with_cursor, loaded_tree, client_at, clients_at, seated, few, loaded_saved, over_loaded}
use Rattle.zt_book.specs.Log.{loaded, IsBegun}
use Rattle.zt_book.proofs.KeptLaws.{apart, same_Ok}
use Rattle.zt_book.proofs.RowLaws.{row_law}
use Rattle.zt_book.proofs.SeatLaws.{length-clients_at}

-- what a session of so many clients that loading gives is made of
pub record IsLoadedOf (clients : ℕ) (saved : Saved) (M : Session) : Type 0 where
  pub few : clients ≤ 4
  pub tree : loaded_tree saved ≡ Ok M.tree
  pub cursors : List Cursor
  pub found : in_turn (with_cursor M.tree) (length saved.moments + length saved.branches) [] saved.cursors ≡ Ok cursors
  pub clients_are : M.clients ≡ clients_at clients cursors

fits : (many : Bool) (x : ⊤) → (let r : Result ⊤ (ℕ × Refusal) = if many then Err (0, refusal.TooManyClients) else Ok tt in r ≡ Ok x) → many ≡ false
fits true x h = cc
fits false x h = refl

pub loaded-apart : (clients : ℕ) (saved : Saved) (M : Session) → loaded_saved clients saved ≡ Ok M → IsLoadedOf clients saved M
loaded-apart clients saved M h =
    let place : ℕ = length saved.moments + length saved.branches in
    let one = apart (few clients) (λ _. loaded_tree saved >>= λ t. seated clients place t saved.cursors) M h in
    let two = apart (loaded_tree saved) (λ t. seated clients place t saved.cursors) M one.2 in
    let t : Tree = two.0 in
    let three = apart (in_turn (with_cursor t) place [] saved.cursors) (λ cs. let r : Result Session (ℕ × Refusal) = Ok (record { tree = t; clients = clients_at clients cs }) in r) M two.2 in
    let cs : List Cursor = three.0 in
    let N : Session = record { tree = t; clients = clients_at clients cs } in
    let is : N ≡ M = same_Ok N M three.2 in
    let kept : IsLoadedOf clients saved N = record {
      few = ltb-false 4 clients (fits (nat_lt 4 clients) one.0 one.1);
      tree = two.1;
      cursors = cs;
      found = three.1;
      clients_are = refl;
    } in
    subst (IsLoadedOf clients saved) is kept

abbrev IsUnanswered : Client → Type 0
IsUnanswered client = client.rows ≡ 0

unanswered_at : (clients : ℕ) (cursors : List Cursor) → All IsUnanswered (clients_at clients cursors)
unanswered_at clients cursors =
    All-take IsUnanswered clients (map client_at cursors ++ replicate clients first_client)
    (All-append IsUnanswered (map client_at cursors) (replicate clients first_client)
    (All-map IsUnanswered client_at cursors (λ k d lt. refl))
    (All-replicate IsUnanswered clients first_client refl))

-- ---- sessions in which a book can begin

module _ (M : Session) (begun : IsBegun M) where
  pub begun-few : length M.clients ≤ 4
  begun-few = (loaded-apart (length M.clients) begun.saved M begun.gives).few

  pub begun-unanswered : All (λ (client : Client). client.rows ≡ 0) M.clients
  begun-unanswered =
      let of = loaded-apart (length M.clients) begun.saved M begun.gives in
      subst (All IsUnanswered) (sym of.clients_are) (unanswered_at (length M.clients) of.cursors)

-- over a tree that calls give
pub calls-begun : (M : Session) (calls : List (ℕ × Call)) (t : Tree) (clients : ℕ) → loaded calls ≡ Ok t → clients ≤ 4 → M ≡ session_over t clients → IsBegun M
calls-begun M calls t clients gives small is =
    let gives_it : loaded_saved clients (in_a_row calls) ≡ Ok (session_over t clients) =
    row_law clients calls small ∙ ap (over_loaded clients) gives in
    let long : clients ≡ length (session_over t clients).clients = sym (length-replicate clients first_client) in
    let kept : IsBegun (session_over t clients) = record {
      saved = in_a_row calls;
      gives = subst (λ n. loaded_saved n (in_a_row calls) ≡ Ok (session_over t clients)) long gives_it;
    } in
    subst IsBegun (sym is) kept

-- at the opening
pub opening-begun : (M : Session) (clients : ℕ) → clients ≤ 4 → M ≡ opening_session clients → IsBegun M
opening-begun M clients = calls-begun M [] (opening_session clients).tree clients refl

-- of a saved tree
pub loaded-many : (clients : ℕ) (saved : Saved) (M : Session) → loaded_saved clients saved ≡ Ok M → length M.clients ≡ clients
loaded-many clients saved M gives =
    let of = loaded-apart clients saved M gives in
    ap length of.clients_are ∙ length-clients_at clients of.cursors

pub saved-begun : (clients : ℕ) (saved : Saved) (M : Session) → loaded_saved clients saved ≡ Ok M → IsBegun M
saved-begun clients saved M gives = record {
  saved = saved;
  gives = subst (λ n. loaded_saved n saved ≡ Ok M) (sym (loaded-many clients saved M gives)) gives;
}
