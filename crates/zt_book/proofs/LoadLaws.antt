-- Loading, call by call.
use Rattle.std.proofs.Common.{◌≡◌, ◌⊎◌, ℕ, zero, suc, ◌≤◌, ◌<◌, false, List, [], ◌∷◌, length, drop, get_or, Result, Ok, Err, refl, sym, ◌∙◌, ap, subst, inl, inr, arith, length-append}
use Rattle.std.proofs.Math.Seq.{drop-cons}
use Rattle.std.proofs.lemmas.Bool.{lt-ltb, le-ltb}
use Rattle.zt_rows.specs.declared.calls.Answer.{Answer}
use Rattle.zt_rows.specs.declared.calls.Call.{Call}
use Rattle.zt_rows.specs.declared.refusals.Refusal.{Refusal}
use Rattle.zt_rows.specs.declared.refusals.Refusal.TheVariants as refusal
use Rattle.zt_rows.specs.Reads.{has_live_process}
use Rattle.zt_history.specs.HistoryRefusals.{check, ◌>>=◌, call_on, most_moments, IsHistoryRefusal}
use Rattle.zt_history.specs.Tree.{Tree, Branch, last_moment, state_at, head_at, headed, called, made_by}
use Rattle.zt_rows.specs.declared.calls.Answer.TheVariants as answer
use Rattle.std.specs.Prelude.{nat_lt}
use Rattle.zt_book.specs.Log.{loaded, loaded_behind, loaded_from, IsUnloadedBy, IsUnloaded}
use Rattle.zt_book.specs.ProofsOnly.Log.{fault_at}
use Rattle.zt_book.proofs.ServedLaws.{behind, last}

-- ---- a call that is answered

headed-length : (bs : List Branch) (i m : ℕ) → length (headed bs i m) ≡ length bs
headed-length [] i m = refl
headed-length (b ∷ bs) zero m = refl
headed-length (b ∷ bs) (suc i) m = ap suc (headed-length bs i m)

-- a call leaves as many branches
pub branches-called : (t : Tree) (b process : ℕ) (call : Call) (y : Answer × Tree) → call_on t b process call ≡ Ok y → length y.1.branches ≡ length t.branches
branches-called t b process call y =
    let P : Answer × Tree → Type 0 = λ y. length y.1.branches ≡ length t.branches in
    let made : Answer × Tree = (answer.Called (suc (last_moment t)) (made_by t.made (head_at t.branches b) process call).reply, called t b process call) in
    behind P (check (nat_lt (last_moment t) most_moments) refusal.Full) (λ _. check (has_live_process (state_at t.made (head_at t.branches b)) process) refusal.NoProcess >>= λ _. Ok made) y
    (λ _. last P (check (has_live_process (state_at t.made (head_at t.branches b)) process) refusal.NoProcess) (λ _. made) y (λ _. headed-length t.branches b (suc (length t.made))))

-- and no fewer moments
pub moments-called : (t : Tree) (b process : ℕ) (call : Call) (y : Answer × Tree) → call_on t b process call ≡ Ok y → length t.made ≤ length y.1.made
moments-called t b process call y =
    let P : Answer × Tree → Type 0 = λ y. length t.made ≤ length y.1.made in
    let made : Answer × Tree = (answer.Called (suc (last_moment t)) (made_by t.made (head_at t.branches b) process call).reply, called t b process call) in
    let more : P made = omega (arith, length-append t.made (made_by t.made (head_at t.branches b) process call ∷ [])) in
    behind P (check (nat_lt (last_moment t) most_moments) refusal.Full) (λ _. check (has_live_process (state_at t.made (head_at t.branches b)) process) refusal.NoProcess >>= λ _. Ok made) y
    (λ _. last P (check (has_live_process (state_at t.made (head_at t.branches b)) process) refusal.NoProcess) (λ _. made) y (λ _. more))

-- the others are loaded behind it
pub loaded-more : (i : ℕ) (t u : Tree) (process : ℕ) (call : Call) (said : Answer) (rest : List (ℕ × Call)) → call_on t 0 process call ≡ Ok (said, u)
    → loaded_from i t ((process, call) ∷ rest) ≡ loaded_from (suc i) u rest
loaded-more i t u process call said rest h = ap (λ r. loaded_behind i r (λ v. loaded_from (suc i) v rest)) h

-- ---- a call that is refused

pub refused-either : (A : Type 0) (reason given : Refusal) → IsHistoryRefusal {A = A} (Err reason) given → (given ≡ reason) ⊎ (given ≡ refusal.OutOfMemory)
refused-either A refusal.NoProcess given h = h
refused-either A _ given h = inl h

pub fault-either : (i : ℕ) (given : Refusal) → (fault_at i given ≡ (i, given)) ⊎ (fault_at i given ≡ (0, refusal.OutOfMemory))
fault-either i refusal.OutOfMemory = inr refl
fault-either i _ = inl refl

-- want of memory can always be told
pub unloaded-memory : {A : Type 0} (whole : Result A (ℕ × Refusal)) → IsUnloadedBy false whole (0, refusal.OutOfMemory)
unloaded-memory (Ok t) = refl
unloaded-memory (Err first) = inr refl

unloaded_here : (r : Result (Answer × Tree) Refusal) (i : ℕ) (given : Refusal) (rest : Tree → Result Tree (ℕ × Refusal)) → IsHistoryRefusal r given
    → IsUnloadedBy false (loaded_behind i r rest) (fault_at i given)
unloaded_here (Ok done) i given rest h =
    subst (λ g. IsUnloadedBy false (rest done.1) (fault_at i g)) (sym h) (unloaded-memory (rest done.1))
unloaded_here (Err reason) i given rest h =
    elim (refused-either (Answer × Tree) reason given h) [
      | inl same ↦ elim (fault-either i given) [
        | inl told ↦ inl (told ∙ ap (λ g. let p : ℕ × Refusal = (i, g) in p) same)
        | inr memory ↦ inr memory
      ]
      | inr memory ↦ inr (ap (fault_at i) memory)
    ]

pub unloaded-here : (i : ℕ) (t : Tree) (process : ℕ) (call : Call) (given : Refusal) (rest : List (ℕ × Call)) → IsHistoryRefusal (call_on t 0 process call) given
    → IsUnloadedBy false (loaded_from i t ((process, call) ∷ rest)) (fault_at i given)
unloaded-here i t process call given rest = unloaded_here (call_on t 0 process call) i given (λ u. loaded_from (suc i) u rest)

-- ---- so far

pub drop_all : {A : Type 0} (xs : List A) (i : ℕ) → length xs ≤ i → drop i xs ≡ []
drop_all [] zero h = refl
drop_all [] (suc i) h = refl
drop_all (x ∷ xs) zero h = absurd (omega arith)
drop_all (x ∷ xs) (suc i) h = drop_all xs i (omega arith)

pub front : {A : Type 0} (xs : List A) (i : ℕ) (x : A) → i < length xs → x ≡ get_or xs i x → drop i xs ≡ x ∷ drop (suc i) xs
front xs i x there is = drop-cons xs i x there ∙ ap (λ y. y ∷ drop (suc i) xs) (sym is)

pub loaded-so-far : (calls : List (ℕ × Call)) (i j : ℕ) (t u : Tree) (x : ℕ × Call) (said : Answer) → i < length calls → j ≡ suc i
    → x ≡ get_or calls i x → call_on t 0 x.0 x.1 ≡ Ok (said, u) → loaded_from i t (drop i calls) ≡ loaded calls → loaded_from j u (drop j calls) ≡ loaded calls
loaded-so-far calls i j t u x said there next is done so_far =
    ap (λ n. loaded_from n u (drop n calls)) next
    ∙ sym (loaded-more i t u x.0 x.1 said (drop (suc i) calls) done)
    ∙ sym (ap (loaded_from i t) (front calls i x there is))
    ∙ so_far

pub unloaded-so-far : (calls : List (ℕ × Call)) (i : ℕ) (t : Tree) (x : ℕ × Call) (given : Refusal) → i < length calls → x ≡ get_or calls i x
    → IsHistoryRefusal (call_on t 0 x.0 x.1) given → loaded_from i t (drop i calls) ≡ loaded calls → IsUnloadedBy false (loaded calls) (fault_at i given)
unloaded-so-far calls i t x given there is refused so_far =
    let here : loaded_from i t (x ∷ drop (suc i) calls) ≡ loaded calls = sym (ap (loaded_from i t) (front calls i x there is)) ∙ so_far in
    subst (λ w. IsUnloadedBy false w (fault_at i given)) here (unloaded-here i t x.0 x.1 given (drop (suc i) calls) refused)

-- too many clients are told before all
pub unloaded-many : {A : Type 0} (clients : ℕ) (whole : Result A (ℕ × Refusal)) → 4 < clients → IsUnloaded clients whole (0, refusal.TooManyClients)
unloaded-many clients whole h = rw (lt-ltb 4 clients h) refl

pub unloaded-few : {A : Type 0} (clients : ℕ) (whole : Result A (ℕ × Refusal)) (fault : ℕ × Refusal) → clients ≤ 4 → IsUnloadedBy false whole fault → IsUnloaded clients whole fault
unloaded-few clients whole fault h told = rw (le-ltb 4 clients h) told

pub loaded-whole : (calls : List (ℕ × Call)) (i : ℕ) (t : Tree) → length calls ≤ i → loaded_from i t (drop i calls) ≡ loaded calls → loaded calls ≡ Ok t
loaded-whole calls i t whole so_far = sym so_far ∙ ap (loaded_from i t) (drop_all calls i whole)
