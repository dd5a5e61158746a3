-- What every answer of a responder keeps, a talk keeps.
use Rattle.std.proofs.Common.{◌≡◌, ℕ, Bool, List, [], ◌∷◌, length, Option, Some, None, Result, Ok, Err, ◌∙◌, ap, inl, inr}
use Rattle.zt_rows.specs.declared.calls.Command.{Command}
use Rattle.zt_rows.specs.declared.refusals.Refusal.{Refusal}
use Rattle.zt_book.specs.Log.{BookView, SessionLog as Stood}
use Rattle.zt_text.specs.ReadLines.{read_as}
use Rattle.zt_text.specs.declared.read_lines.Line.{Line}
use Rattle.zt_text.specs.declared.read_lines.Line.TheVariants as line
use Rattle.zt_console.specs.declared.conversation.Conversation.{Conversation}
use Rattle.zt_console.specs.Conversations.{Given, Manner, Answers, Talk}
use Rattle.zt_shared.specs.Sharing.{PassView}
use Rattle.zt_console.specs.BookRun.{AsksBook}
use Rattle.zt_console.specs.Explored.{explored, AsksExplored}
use Rattle.zt_console.specs.Run.{HasTalked}
use Rattle.zt_console.specs.Sessions.{AsksPass}
use Rattle.zt_console.proofs.ExploredLaws.{explored-many}

module _ {D X : Type 0} (Asks : Manner D) (f : D → X) (kept : (M : D) (asked : Command) (given : Given) (N : D) → Asks M asked given N → f N ≡ f M) where
  same-responder : (M N : Conversation D) → N ≡ M → f N.responder ≡ f M.responder
  same-responder M N h = ap (λ (S : Conversation D). f S.responder) h

  answers-keep : (M : Conversation D) (read : Result (Option Line) Refusal) (text : List ℕ) (N : Conversation D) → Answers Asks M read text N → f N.responder ≡ f M.responder
  answers-keep M (Ok None) text N (_, same) = same-responder M N same
  answers-keep M (Ok (Some (line.Command asked))) text N (inl h) = kept M.responder asked h.given N.responder h.answers
  answers-keep M (Ok (Some (line.Command asked))) text N (inr (_, _, same)) = same-responder M N same
  answers-keep M (Ok (Some line.PinnedShow)) text N h = same-responder M N h.same
  answers-keep M (Ok (Some (line.PinnedHolders koid))) text N h = same-responder M N h.same
  answers-keep M (Ok (Some line.PinnedLeaks)) text N h = same-responder M N h.same
  answers-keep M (Err reason) text N (_, same) = same-responder M N same

  pub talk-keeps : (M : Conversation D) (lines : List (List ℕ)) (text : List ℕ) (N : Conversation D) → Talk Asks M lines text N → f N.responder ≡ f M.responder
  talk-keeps M [] text N (_, same) = same-responder M N same
  talk-keeps M (l ∷ ls) text N (first, between, others, answers, talk, _) =
      talk-keeps between ls others N talk ∙ answers-keep M (read_as l) first between answers

-- a book keeps its clients
asks-keep : (M : BookView) (asked : Command) (given : Given) (N : BookView) → AsksBook M asked given N → length N.session.clients ≡ length M.session.clients
asks-keep M asked (Ok given) N (same, _, _, _) = same
asks-keep M asked (Err reason) N (_, same) = ap (λ (S : Stood). length S.session.clients) same

pub talked_clients : (M N : BookView) (known before after : Option (List ℕ)) (done : Bool) → HasTalked AsksBook M N known before after done → length N.session.clients ≡ length M.session.clients
talked_clients M N known before after done h = talk-keeps AsksBook (λ (b : BookView). length b.session.clients) asks-keep _ h.lines h.spoken.text _ h.spoken.talk

-- a book that is explored keeps its clients
explored-keep : (M : BookView) (asked : Command) (given : Given) (N : BookView) → AsksExplored M asked given N → length N.session.clients ≡ length M.session.clients
explored-keep M asked given N h = asks-keep (explored M) asked given N h ∙ explored-many M

pub explored_clients : (M N : BookView) (known before after : Option (List ℕ)) (done : Bool) → HasTalked AsksExplored M N known before after done → length N.session.clients ≡ length M.session.clients
explored_clients M N known before after done h = talk-keeps AsksExplored (λ (b : BookView). length b.session.clients) explored-keep _ h.lines h.spoken.text _ h.spoken.talk

-- a pass keeps its client, and where its log begins
who-kept : (M : PassView) (asked : Command) (given : Given) (N : PassView) → AsksPass M asked given N → N.client ≡ M.client
who-kept M asked (Ok given) N h = h.who
who-kept M asked (Err reason) N (_, same) = ap (λ (p : PassView). p.client) same

base-kept : (M : PassView) (asked : Command) (given : Given) (N : PassView) → AsksPass M asked given N → N.base ≡ M.base
base-kept M asked (Ok given) N h = h.base
base-kept M asked (Err reason) N (_, same) = ap (λ (p : PassView). p.base) same

pub talked_who : (M N : PassView) (known before after : Option (List ℕ)) (done : Bool) → HasTalked AsksPass M N known before after done → N.client ≡ M.client
talked_who M N known before after done h = talk-keeps AsksPass (λ (p : PassView). p.client) who-kept _ h.lines h.spoken.text _ h.spoken.talk

pub talked_base : (M N : PassView) (known before after : Option (List ℕ)) (done : Bool) → HasTalked AsksPass M N known before after done → N.base ≡ M.base
talked_base M N known before after done h = talk-keeps AsksPass (λ (p : PassView). p.base) base-kept _ h.lines h.spoken.text _ h.spoken.talk
