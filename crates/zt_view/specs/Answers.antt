-- How a request is answered, and what the history is then.
use Rattle.std.specs.Prelude.{◌≡◌, ◌⊎◌, ℕ, Bool, true, List, [], ◌∷◌, ◌++◌, Option, None, Some, Result, Ok, Err, if◌then◌else◌, codes}
use Rattle.http.specs.declared.request.Request.{Request}
use Rattle.http.specs.Request.{body_of, head_of}
use Rattle.http_uri.specs.Uri.{uri_path, uri_query}
use Rattle.http_server.specs.declared.response.Response.{Response}
use Rattle.zt_rows.specs.declared.refusals.Refusal.{Refusal}
use Rattle.zt_text.specs.Notes.{Noted, is_unnoted}
use Rattle.zt_text.specs.NotedTexts.{noted_saved_text}
use Rattle.zt_book.specs.Log.{BookView, standing_of}
use Rattle.zt_book.specs.SavedSessions.{saved_of_session}
use Rattle.zt_console.specs.Explored.{AsksExplored}
use Rattle.zt_console.specs.Run.{HasTalked}
use Rattle.zt_view.specs.declared.lacks.Lack.{Lack}
use Rattle.zt_view.specs.declared.question.ViewQuestion.{ViewQuestion}
use Rattle.zt_view.specs.declared.requests.ViewRequest.{ViewRequest}
use Rattle.zt_view.specs.declared.requests.ViewRequest.TheVariants as asked
use Rattle.zt_view.specs.declared.view.View.{View}
use Rattle.zt_view.specs.Guard.{IsAdmitted}
use Rattle.zt_view.specs.Lacks.{lack_status, lack_text}
use Rattle.zt_view.specs.Questions.{IsFound}
use Rattle.zt_view.specs.Requests.{wish}
use Rattle.zt_view.specs.Responses.{HasStatus, IsFailure, IsGuarded, IsRefusal, Tells, TellsFound}

-- the view holds this book, and all else is as before
abbrev pub Holds : Option BookView → View → View → Type 0
Holds book old new = (new.book ≡ book) × (new.own ≡ old.own) × (new.start ≡ old.start) × (new.trace ≡ old.trace) × (new.notes ≡ old.notes) × (new.is_ended ≡ old.is_ended)

-- the request is refused, and nothing is changed
abbrev pub Refuses : View → Response → View → Type 0
Refuses old response new = IsRefusal old.start.bytes response × Holds old.book old new

-- the view holds a book that stands as this one, and all else is as before
abbrev pub Stands : BookView → View → View → Type 0
Stands book old new = (next : BookView) × Holds (Some next) old new × (standing_of next ≡ standing_of book)

-- a view that holds no book can answer nothing of it
abbrev pub LacksBook : View → Response → View → Type 0
LacksBook old response new = (old.book ≡ None) × Refuses old response new

-- ---- lines

-- the text is all that is written where these lines are answered over one book, which leaves the other
abbrev pub IsTalk : BookView → BookView → List ℕ → List ℕ → Type 0
IsTalk from to lines text = HasTalked AsksExplored from to (Some lines) (Some []) (Some text) true

-- some first ones of the lines are answered over one book, which leaves the other
abbrev pub IsPartOfTalk : BookView → BookView → List ℕ → Type 0
IsPartOfTalk from to lines =
    (written : List ℕ) × (done : Bool) × HasTalked AsksExplored from to (Some lines) (Some []) (Some written) done

-- the body is all that is written for the lines; or some first ones were answered, and the server has failed
abbrev pub TellsTalk : List ℕ → BookView → BookView → List ℕ → Response → Type 0
TellsTalk start from to lines response =
    ((response.status ≡ 200) × IsTalk from to lines response.body.items × IsGuarded start response)
    ⊎ (IsFailure response × IsPartOfTalk from to lines)

abbrev pub AnswersLines : View → List ℕ → Response → View → Type 0
AnswersLines old lines response new =
    ((from : BookView) × (to : BookView) × (old.book ≡ Some from) × Holds (Some to) old new × TellsTalk old.start.bytes from to lines response)
    ⊎ LacksBook old response new

-- ---- the tree, and questions about it

-- the tree's session text, with the notes and names of the text with which the history began
abbrev pub AnswersTree : Option BookView → View → Response → View → Type 0
AnswersTree None old response new = Refuses old response new
AnswersTree (Some book) old response new =
    Tells old.start.bytes 200 (noted_saved_text old.notes (saved_of_session book.session)) response × Holds old.book old new

-- what is found of the question, or why nothing is, is told
abbrev pub TellsOf : List ℕ → ViewQuestion → BookView → Response → Type 0
TellsOf start question book response =
    (found : Result (List ℕ) Refusal) × IsFound question book.session.tree found × TellsFound start found response

abbrev pub AnswersQuestion : ViewQuestion → View → Response → View → Type 0
AnswersQuestion question old response new =
    ((book : BookView) × (old.book ≡ Some book) × TellsOf old.start.bytes question book response × Stands book old new)
    ⊎ LacksBook old response new

-- whether the text with which the history began has notes or names
abbrev pub noted_word : Noted → List ℕ
noted_word noted = if is_unnoted noted then codes "no" else codes "yes"

-- ---- all requests

-- what is asked for is answered, or its lack is told
abbrev pub AnswersWish : Result ViewRequest Lack → View → List ℕ → Response → View → Type 0
AnswersWish (Ok (asked.Page _)) old body response new = HasStatus old.start.bytes 200 response × Holds old.book old new
AnswersWish (Ok asked.Trace) old body response new = Tells old.start.bytes 200 (old.trace.items ++ 10 ∷ []) response × Holds old.book old new
AnswersWish (Ok asked.Noted) old body response new = Tells old.start.bytes 200 (noted_word old.notes ++ 10 ∷ []) response × Holds old.book old new
AnswersWish (Ok asked.Lines) old body response new = AnswersLines old body response new
AnswersWish (Ok asked.Tree) old body response new = AnswersTree old.book old response new
AnswersWish (Ok (asked.Answer question)) old body response new = AnswersQuestion question old response new
AnswersWish (Ok asked.End) old body response new =
    HasStatus old.start.bytes 200 response × (new.book ≡ old.book) × (new.own ≡ old.own) × (new.start ≡ old.start) × (new.trace ≡ old.trace) × (new.notes ≡ old.notes) × (new.is_ended ≡ true)
AnswersWish (Err lack) old body response new =
    Tells old.start.bytes (lack_status lack) (lack_text lack) response × Holds old.book old new

-- what a request asks for
abbrev pub wish_of : Request (List ℕ) → Result ViewRequest Lack
wish_of request = wish (head_of request).method (uri_path (head_of request).uri) (uri_query (head_of request).uri)

-- the request is for this server, and from nowhere else
abbrev pub IsAdmittedTo : View → Request (List ℕ) → Type 0
IsAdmittedTo view request = IsAdmitted view.own (head_of request).uri (head_of request).headers

-- How a request is answered: what is let in by what it asks for, and what is not by a refusal.
pub record IsAnswered (old : View) (request : Request (List ℕ)) (response : Response) (new : View) : Type 0 where
  pub admitted : IsAdmittedTo old request → AnswersWish (wish_of request) old (body_of request) response new
  pub foreign : ¬ (IsAdmittedTo old request) → Refuses old response new
