-- One call more on `main` is loaded behind those before it.
use Rattle.std.proofs.Common.{◌≡◌, ℕ, suc, List, [], ◌∷◌, ◌++◌, length, Result, Ok, Err, refl, sym, ◌∙◌, ap}
use Rattle.std.proofs.lemmas.List.{map-append}
use Rattle.std.specs.Prelude.{nat_lt}
use Rattle.zt_rows.specs.declared.calls.Answer.{Answer}
use Rattle.zt_rows.specs.declared.calls.Answer.TheVariants as answer
use Rattle.zt_rows.specs.declared.calls.Call.{Call}
use Rattle.zt_rows.specs.declared.calls.Reply.{Reply}
use Rattle.zt_rows.specs.declared.refusals.Refusal.{Refusal}
use Rattle.zt_rows.specs.declared.refusals.Refusal.TheVariants as refusal
use Rattle.zt_rows.specs.Reads.{has_live_process}
use Rattle.zt_history.specs.HistoryRefusals.{check, ◌>>=◌, call_on, most_moments}
use Rattle.zt_history.specs.Tree.{Made, Tree, last_moment, state_at, head_at, called, made_by}
use Rattle.zt_book.specs.Log.{loaded, loaded_behind, loaded_from}
use Rattle.zt_book.proofs.ServedLaws.{behind, last}
use Rattle.zt_import.specs.Trails.{calls_of}

-- ---- what a call gives

abbrev pub made_on : Tree → ℕ → Call → Made
made_on t process call = made_by t.made (head_at t.branches 0) process call

abbrev given_on : Tree → ℕ → Call → Answer × Tree
given_on t process call = (answer.Called (suc (last_moment t)) (made_on t process call).reply, called t 0 process call)

given_is : (t : Tree) (process : ℕ) (call : Call) (y : Answer × Tree) → call_on t 0 process call ≡ Ok y → y ≡ given_on t process call
given_is t process call y =
    let P : Answer × Tree → Type 0 = λ y. y ≡ given_on t process call in
    behind P (check (nat_lt (last_moment t) most_moments) refusal.Full)
    (λ _. check (has_live_process (state_at t.made (head_at t.branches 0)) process) refusal.NoProcess >>= λ _. Ok (given_on t process call)) y
    (λ _. last P (check (has_live_process (state_at t.made (head_at t.branches 0)) process) refusal.NoProcess) (λ _. given_on t process call) y (λ _. refl))

moment_in : Answer → ℕ
moment_in (answer.Called moment _) = moment
moment_in _ = 0

-- the moment is the next, and the tree has one more
pub called-moment : (t u : Tree) (process moment : ℕ) (call : Call) (reply : Reply) → call_on t 0 process call ≡ Ok (answer.Called moment reply, u)
    → moment ≡ suc (length t.made)
unfolding moment_in
called-moment t u process moment call reply h =
    ap (λ (y : Answer × Tree). moment_in y.0) (given_is t process call (answer.Called moment reply, u) h)

pub called-made : (t u : Tree) (process moment : ℕ) (call : Call) (reply : Reply) → call_on t 0 process call ≡ Ok (answer.Called moment reply, u)
    → u.made ≡ t.made ++ made_on t process call ∷ []
called-made t u process moment call reply h =
    ap (λ (y : Answer × Tree). y.1.made) (given_is t process call (answer.Called moment reply, u) h)

-- its calls are those before it, and the call
pub called-calls : (t u : Tree) (process moment : ℕ) (call : Call) (reply : Reply) → call_on t 0 process call ≡ Ok (answer.Called moment reply, u)
    → calls_of u.made ≡ calls_of t.made ++ (process, call) ∷ []
called-calls t u process moment call reply h =
    ap calls_of (called-made t u process moment call reply h)
    ∙ map-append (λ (e : Made). let c : ℕ × Call = (e.process, e.call) in c) t.made (made_on t process call ∷ [])

-- ---- loading

behind-more : (i : ℕ) (r : Result (Answer × Tree) Refusal) (rest more : Tree → Result Tree (ℕ × Refusal)) (u v : Tree)
    → ((w : Tree) → rest w ≡ Ok u → more w ≡ Ok v) → loaded_behind i r rest ≡ Ok u → loaded_behind i r more ≡ Ok v
behind-more i (Ok done) rest more u v go h = go done.1 h
behind-more i (Err reason) rest more u v go h = cc

loaded_from-more : (i : ℕ) (t u v : Tree) (calls : List (ℕ × Call)) (process : ℕ) (call : Call) (said : Answer) → loaded_from i t calls ≡ Ok u
    → call_on u 0 process call ≡ Ok (said, v) → loaded_from i t (calls ++ (process, call) ∷ []) ≡ Ok v
loaded_from-more i t u v [] process call said h done =
    let same : u ≡ t = cc in
    ap (λ r. loaded_behind i r (λ w. Ok w)) (ap (λ w. call_on w 0 process call) (sym same) ∙ done)
loaded_from-more i t u v ((first, made) ∷ calls) process call said h done =
    behind-more i (call_on t 0 first made) (λ w. loaded_from (suc i) w calls) (λ w. loaded_from (suc i) w (calls ++ (process, call) ∷ [])) u v
    (λ w so. loaded_from-more (suc i) w u v calls process call said so done) h

pub loaded-called : (t u : Tree) (process moment : ℕ) (call : Call) (reply : Reply) → loaded (calls_of t.made) ≡ Ok t
    → call_on t 0 process call ≡ Ok (answer.Called moment reply, u) → loaded (calls_of u.made) ≡ Ok u
loaded-called t u process moment call reply so h =
    ap loaded (called-calls t u process moment call reply h)
    ∙ loaded_from-more 0 _ t u (calls_of t.made) process call (answer.Called moment reply) so h
