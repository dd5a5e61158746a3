-- What a book keeps while a command is answered and written, and while the last one is taken back.
use Rattle.std.proofs.Common.{◌≡◌, ℕ, ◌≤◌, ◌<◌, List, [], ◌∷◌, ◌++◌, length, Option, Some, None, Ok, refl, sym, ◌∙◌, ap, subst, arith, length-append}
use Rattle.zt_history.specs.ProofsOnly.Branches.{without_last}
use Rattle.zt_book.specs.declared.book.LastServed.{LastServed}
use Rattle.zt_book.specs.declared.client.Client.{Client}
use Rattle.zt_book.specs.declared.log.Recorded.{Recorded}
use Rattle.zt_book.specs.Session.{Session, client_of, serve}
use Rattle.zt_book.specs.Log.{SessionLog, IsCounted, IsBegun, IsWholeLog, Replays}
use Rattle.zt_book.specs.ProofsOnly.SessionState.{SessionStateView, Stand, IsOneMore, session_before, before_of, CanTakeBack, IsBook}
use Rattle.zt_book.proofs.ListLaws.{without_last-push}
use Rattle.zt_book.proofs.ServedLaws.{one-more-length}
use Rattle.zt_book.proofs.BegunLaws.{begun-few, begun-unanswered}
use Rattle.zt_book.proofs.CountLaws.{counted-begun, counted-row}
use Rattle.zt_book.proofs.ReplayLaws.{replays-row}

-- a book to whose clients nothing was answered yet
pub book-begun : (d : SessionStateView) (log : List Recorded) → IsBegun d.session → log ≡ [] → IsBook d log None
book-begun d log begun empty =
    let kept : IsBook d [] None = record {
      counted = counted-begun d.session (begun-few d.session begun) (begun-unanswered d.session begun);
      whole = record { base = d.session; begun = begun; replays = refl };
      served = tt;
    } in
    subst (λ l. IsBook d l None) (sym empty) kept

module _ (d e : SessionStateView) (log more : List Recorded) (row : Recorded) (client : ℕ) (was : Client) (written : more ≡ log ++ row ∷ [])
    (back : session_before e client was ≡ d.session) where
  shorter : without_last more ≡ log
  shorter = ap without_last written ∙ without_last-push log row

  -- what it was before is there
  pub before-answered : before_of e more (Some (record { client = client; was = was })) ≡ Some (record { session = d.session; log = log })
  before-answered = λ i. let z : Option SessionLog = Some (record { session = back i; log = shorter i }) in z

  pub book-answered : (last : Option LastServed) → 1 ≤ client → client ≤ length d.session.clients → row.client ≡ client
      → serve d.session client row.asked ≡ Ok (row.answered, e.session) → (client_of d.session client).rows < 4096
      → IsOneMore d.session.clients e.session.clients client → Stand d.session → IsBook d log last → IsBook e more (Some (record { client = client; was = was }))
  book-answered last one known of_it served room moved stand kept =
      let long : length e.session.clients ≡ length d.session.clients = one-more-length d.session.clients e.session.clients client moved in
      let answered : serve d.session row.client row.asked ≡ Ok (row.answered, e.session) =
      subst (λ n. serve d.session n row.asked ≡ Ok (row.answered, e.session)) (sym of_it) served in
      let base : Session = kept.whole.base in
      record {
        counted = subst (IsCounted e.session) (sym written) (counted-row d.session e.session client log row one known of_it moved kept.counted room);
        whole = record {
          base = base;
          begun = kept.whole.begun;
          replays =
              subst (λ l. Replays base l e.session) (sym written) (replays-row base d.session e.session log row kept.whole.replays answered);
        };
        served = record {
          numbered = one;
          known = subst (λ n. client ≤ n) (sym long) known;
          some = omega (arith, ap length written, length-append log (row ∷ []));
          stand = subst Stand (sym back) stand;
          counted = subst (IsCounted (session_before e client was)) (sym shorter) (subst (λ M. IsCounted M log) (sym back) kept.counted);
          replays =
              subst (λ l. Replays base l (session_before e client was)) (sym shorter) (subst (Replays base log) (sym back) kept.whole.replays);
        };
      }

-- with the same session and log it stays a book, whatever was answered last
pub book-same : (d e : SessionStateView) (log : List Recorded) (last : Option LastServed) → e.session ≡ d.session → IsBook d log last → IsBook e log None
book-same d e log last same kept = record {
  counted = subst (λ M. IsCounted M log) (sym same) kept.counted;
  whole = subst (λ M. IsWholeLog M log) (sym same) kept.whole;
  served = tt;
}

-- the last command is taken back
pub book-back : (d e : SessionStateView) (log less : List Recorded) (was : Option LastServed) (last : LastServed) → was ≡ Some last
    → e.session ≡ session_before d last.client last.was → less ≡ without_last log → IsBook d log was → IsBook e less None
book-back d e log less was last is same shorter kept =
    let known : IsBook d log (Some last) = subst (IsBook d log) is kept in
    let base : Session = known.whole.base in
    let can : CanTakeBack base d log last = known.served in
    record {
      counted = subst (λ l. IsCounted e.session l) (sym shorter) (subst (λ M. IsCounted M (without_last log)) (sym same) can.counted);
      whole = record {
        base = base;
        begun = known.whole.begun;
        replays = subst (λ l. Replays base l e.session) (sym shorter) (subst (Replays base (without_last log)) (sym same) can.replays);
      };
      served = tt;
    }
