-- What is told of a result that is looked at by its two cases.
use Rattle.std.proofs.Common.{ℕ, List, Result, Ok, Err, true, inl, inr, subst, sym}
use Rattle.std.specs.Prelude.{IfOk, IfErr, OnErr}
use Rattle.zt_rows.specs.declared.refusals.Refusal.{Refusal}
use Rattle.zt_book.specs.Log.{BookView}
use Rattle.http_server.specs.declared.response.Response.{Response}
use Rattle.zt_view.specs.declared.question.ViewQuestion.{ViewQuestion}
use Rattle.zt_view.specs.Answers.{IsPartOfTalk, IsTalk, TellsOf, TellsTalk}
use Rattle.zt_view.specs.Questions.{IsAnswer, IsUnanswered}
use Rattle.zt_view.specs.Responses.{IsFailure, Tells, TellsFound}

pub told_talk : {X : Type 0} (items : X → List ℕ) (start : List ℕ) (from to : BookView) (lines : List ℕ) (told : Result X Refusal) (response : Response) → IfOk told (λ text. IsTalk from to lines (items text)) → OnErr told (IsPartOfTalk from to lines) → IfOk told (λ text. Tells start 200 (items text) response) → OnErr told (IsFailure response) → TellsTalk start from to lines response
told_talk items start from to lines (Ok text) response whole part (inl (status, body, guarded)) stopped = inl (status, subst (IsTalk from to lines) (sym body) whole, guarded)
told_talk items start from to lines (Ok text) response whole part (inr failed) stopped = inr (failed, (items text, true, whole))
told_talk items start from to lines (Err reason) response whole part tells stopped = inr (stopped, part)

pub told_found : {X : Type 0} (items : X → List ℕ) (start : List ℕ) (asked : ViewQuestion) (book : BookView) (found : Result X Refusal) (response : Response) → IfOk found (λ text. IsAnswer asked book.session.tree (items text)) → IfErr found (IsUnanswered asked book.session.tree) → IfOk found (λ text. TellsFound start (Ok (items text)) response) → IfErr found (λ reason. TellsFound start (Err reason) response) → TellsOf start asked book response
told_found items start asked book (Ok text) response answer none tells refused = (Ok (items text), answer, tells)
told_found items start asked book (Err reason) response answer none tells refused = (Err reason, none, refused)
