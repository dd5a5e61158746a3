-- What was answered is forgotten: the clients stand where they stood, and a book begins there.
use Rattle.std.proofs.Common.{◌≡◌, ℕ, ◌+◌, ◌≤◌, ◌<◌, Bool, false, List, [], ◌∷◌, ◌++◌, length, map, take, drop, set, get_or, Option, None, Ok, sym, ◌∙◌, ap, subst, arith}
use Rattle.std.proofs.lemmas.List.{drop-set-lt, drop_more, length-map, map_more, take_more_set}
use Rattle.std.proofs.lemmas.List.Elements.{All-map}
use Rattle.zt_history.specs.Timeline.{Timeline}
use Rattle.zt_book.specs.declared.book.LastServed.{LastServed}
use Rattle.zt_book.specs.declared.client.Client.{Client}
use Rattle.zt_book.specs.declared.log.Recorded.{Recorded}
use Rattle.zt_book.specs.Session.{Session}
use Rattle.zt_book.specs.SavedSessions.{client_at, loaded_saved, saved_of_session, unanswered}
use Rattle.zt_book.specs.Log.{IsBegun, IsWholeLog}
use Rattle.zt_book.specs.ProofsOnly.SessionState.{SessionStateView, IsClient, Stand, AreClients, IsBook}
use Rattle.zt_book.proofs.BookLaws.{book-begun}
use Rattle.zt_book.proofs.WrittenLaws.{written_law}

-- one element more is changed in its place: those before it are, and those behind it are as they were
module _ {A : Type 0} (f : A → A) (xs s : List A) (i : ℕ) (d : A) (within : i < length s) (long : length s ≡ length xs)
    (done : take i s ≡ map f (take i xs)) (left : drop i s ≡ drop i xs) where
  within_xs : i < length xs
  within_xs = omega (arith, within, long)

  same : get_or s i d ∷ drop (i + 1) s ≡ get_or xs i d ∷ drop (i + 1) xs
  same = sym (drop_more s i d within) ∙ left ∙ drop_more xs i d within_xs

  pub changed-done : take (i + 1) (set s i (f (get_or s i d))) ≡ map f (take (i + 1) xs)
  changed-done =
      take_more_set s i (f (get_or s i d)) within
      ∙ ap (λ l. l ++ f (get_or s i d) ∷ []) done
      ∙ ap (λ l. map f (take i xs) ++ f (get_or l 0 d) ∷ []) same
      ∙ sym (map_more f xs i d within_xs)

  pub changed-left : drop (i + 1) (set s i (f (get_or s i d))) ≡ drop (i + 1) xs
  changed-left = drop-set-lt (i + 1) s i (f (get_or s i d)) (omega arith) ∙ ap (drop 1) same

-- clients who were answered nothing yet stand where they stood
pub renewed-clients : (h : Timeline) (clients new : List Client) (grown : Bool) → AreClients h clients grown
    → new ≡ map (λ client. client_at client.cursor) clients → AreClients h new grown
renewed-clients h clients new grown are is =
    let f : Client → Client = λ client. client_at client.cursor in
    let kept : AreClients h (map f clients) grown = record {
      few = subst (λ n. n ≤ 4) (sym (length-map clients f)) are.few;
      stand = All-map (IsClient h.tree) f clients (λ k d lt. record { cursor = (are.stand k d lt).cursor; pinned = tt; rows = omega arith });
      can_retract = are.can_retract;
    } in
    subst (λ l. AreClients h l grown) (sym is) kept

-- clients stand in the same tree, wherever its store is
pub looked-clients : (h g : Timeline) (clients : List Client) (grown : Bool) → AreClients h clients grown → g.tree ≡ h.tree → AreClients g clients false
looked-clients h g clients grown are same = record {
  few = are.few;
  stand = subst (λ t. let M : Session = record { tree = t; clients = clients } in Stand M) (sym same) are.stand;
  can_retract = λ e. cc e;
}

-- the session of a book, with clients who were answered nothing yet, is loaded of how it is written down
pub renewed-begun : (M N : Session) (log : List Recorded) → IsWholeLog M log → N ≡ unanswered M → IsBegun N
renewed-begun M N log whole is =
    let long : length M.clients ≡ length (unanswered M).clients = sym (length-map M.clients (λ (client : Client). client_at client.cursor)) in
    let kept : IsBegun (unanswered M) = record {
      saved = saved_of_session M;
      gives = subst (λ n. loaded_saved n (saved_of_session M) ≡ Ok (unanswered M)) long (written_law M log whole);
    } in
    subst IsBegun (sym is) kept

pub book-renewed : (d e : SessionStateView) (log less : List Recorded) (last : Option LastServed) → e.session ≡ unanswered d.session → less ≡ []
    → IsBook d log last → IsBook e less None
book-renewed d e log less last is empty kept = book-begun e less (renewed-begun d.session e.session log kept.whole is) empty
